use Rattle.std.proofs.Common.{sym, ap, ◌∙◌, arith}
use Rattle.std.proofs.lemmas.Result.{err_from_is_err_and}
use Rattle.words.specs.declared.kinds.Kind.TheVariants as kind
use Rattle.words.specs.Kinds.{kind_of}
use Rattle.words.proofs.Kinded.{kind_as}
use Rattle.words.proofs.Putting.{ok_or_err}
use Rattle.words.proofs.Refusing.{unknown, headless}
use Rattle.words.proofs.reader.ReaderReading.read.Goals as goal

pub returns-in_err-word : goal.returns-in_err-word
returns-in_err-word c =
    let p = err_from_is_err_and c.from_residual.result c.from_residual.ensures.1 in
    let h = ok_or_err _ _ _ c.in_err-word.ensures in
    rw (p.1, p.2, h.1) (λ after _. unknown c.args.self.now c.args.word h.0 after)

pub returns-in-Head : goal.returns-in-Head
returns-in-Head c = λ after _.
    headless c.args.self.now c.args.word (omega (arith, c.requires.index, c.requires.some)) (ap kind_of (sym c.in_ok-word.ensures) ∙ kind_as c.in_ok-word.word kind.Head c.in-Head.is) after
