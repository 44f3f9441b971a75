use Rattle.std.proofs.Common.{◌≡◌, ℕ, List, length, get_or, ap, ◌∙◌, arith}
use Rattle.words.specs.declared.program_table.ProgramTable.{ProgramTable}
use Rattle.words.proofs.ProgramRanges.{program_ranges}
use Rattle.machine.specs.declared.wiring.Wiring.{Wiring}
use Rattle.machine.specs.Wirings.{line_starts, wiring_of}
use Rattle.machine.proofs.Layouts.{starts_long, starts_at}
use Rattle.machine.proofs.machine.Machine.line_start.Goals as goal

-- a wiring begins its lines where the program's begin
starts_are : (p : ProgramTable) (w : Wiring) → w ≡ wiring_of p → w.starts.items ≡ line_starts p.lines.items
unfolding wiring_of
starts_are p w is = ap (λ (x : Wiring). x.starts.items) is

pub bounds-deref-k : goal.bounds-deref-k
bounds-deref-k c =
    let p = c.args.self.now.program.table in
    let range = program_ranges p c.args.self.now.program.in_range in
    omega (arith, ap length c.deref.ensures.0, ap length (starts_are p c.args.self.now.wiring c.args.self.now.wired), starts_long p.lines.items, range.lines, c.requires)

pub returns-clause-start : goal.returns-clause-start
returns-clause-start c =
    let p = c.args.self.now.program.table in
    let range = program_ranges p c.args.self.now.program.in_range in
    ap (λ (xs : List ℕ). get_or xs c.args.k 0) (c.deref.ensures.0 ∙ starts_are p c.args.self.now.wiring c.args.self.now.wired)
    ∙ starts_at p.lines.items c.args.k (omega (arith, range.lines, c.requires))
