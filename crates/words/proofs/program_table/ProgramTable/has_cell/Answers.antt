use Rattle.std.proofs.Common.{◌≡◌, ℕ, eqb, ◌||◌, List, [], ◌∷◌, refl, ap, ◌∙◌, rules, tests}
use Rattle.std.specs.List.{list_any}
use Rattle.std.specs.Set.{is_member}
use Rattle.std.proofs.lemmas.Iterator.{YieldsList-from_slice}
use Rattle.std.proofs.lemmas.Iterator.Search.{any_from_yields_List}
use Rattle.words.specs.declared.program_table.Cell.{Cell}
use Rattle.words.specs.ProgramDrafts.{nodes_of}
use Rattle.words.proofs.program_table.ProgramTable.has_cell.Goals as goal

-- a cell has the node just where the node is among theirs
same : (cells : List Cell) (i : ℕ) → list_any (λ c. eqb i c.node) cells ≡ is_member eqb (nodes_of cells) i
same [] i = refl
same (c ∷ cells) i = ap (λ b. eqb i c.node || b) (same cells i)

pub returns : goal.returns
returns c =
    any_from_yields_List (λ (x : Cell). eqb c.args.node x.node) _ _ _ c.any.ensures.ran (YieldsList-from_slice c.args.self.now.cells.items cc) (λ x b q k. search (rules, tests))
    ∙ same c.args.self.now.cells.items c.args.node
