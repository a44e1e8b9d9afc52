use Rattle.std.proofs.Common.{◌≡◌, None, rules}
use Rattle.dep_docs_out.proofs.TokenLemmas.{no_members_more}
use Rattle.dep_docs_out.proofs.status.add_behalf.Goals as goal

pub returns-in-Some : goal.returns-in-Some
returns-in-Some c = rw c.in-Some.is (rw c.as_str.ensures at c.text.ensures)

pub returns-in_default : goal.returns-in_default
returns-in_default c =
    let none : c.args.file.now.behalf ≡ None = search rules in
    rw none (no_members_more _)
