use Rattle.std.proofs.Common.{List, ap, sym, subst, ◌∙◌}
use Rattle.dep_decisions.specs.declared.decision.NewFile.{NewFile}
use Rattle.dep_decisions.specs.declared.decision.Deposit.TheVariants.{Files}
use Rattle.dep_requests.specs.Clauses.{PutsIn}
use Rattle.dep_requests.proofs.deposits.fill.Goals as goal

pub returns-in-Files : goal.returns-in-Files
returns-in-Files g c = record {
  map = subst (PutsIn g.T.Statements.lenders g.T.Statements.state c.args.tx.now c.put_new_files.new.tx c.put_new_files.result c.args.numbered.now.change.now c.args.object) (ap (λ (new : List NewFile). Files new) c.as_slice-files.ensures ∙ sym c.in-Files.is)
      c.put_new_files.ensures.map;
}

pub returns-in-Metadata : goal.returns-in-Metadata
returns-in-Metadata g c = record {
  map = subst (PutsIn g.T.Statements.lenders g.T.Statements.state c.args.tx.now c.set_metadata.new.tx c.set_metadata.result c.args.numbered.now.change.now c.args.object) (sym c.in-Metadata.is)
      (record { done = λ o clean inside ours s are reported. c.set_metadata.ensures.does.map clean inside ours s are o reported.1; keeps = c.set_metadata.ensures.does.keeps });
}
