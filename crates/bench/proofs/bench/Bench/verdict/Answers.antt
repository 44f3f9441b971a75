use Rattle.std.proofs.Common.{◌≡◌, rules}
use Rattle.words.specs.declared.graph.Graph.{Graph}
use Rattle.bench.specs.declared.retiming.Retiming.{Retiming}
use Rattle.bench.specs.Verdicts.{verdict}
use Rattle.bench.proofs.Judging.{verdict_holds, verdict_systolic}
use Rattle.bench.proofs.bench.Bench.verdict.Goals as goal

pub returns : goal.returns
returns c =
    let g : Graph = c.args.self.now.design.graph in
    let p : Retiming = c.args.self.now.retiming in
    let e : c.map_or.result ≡ verdict g p = search rules in
    record { answer = e; holds = verdict_holds g p c.map_or.result e; systolic = verdict_systolic g p c.map_or.result e }
