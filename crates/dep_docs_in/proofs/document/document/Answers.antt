use Rattle.std.proofs.Common.{rules}
use Rattle.serde_json.specs.Errors.{IsMemory}
use Rattle.dep_docs_in.proofs.Contents.{document-is, no_document}
use Rattle.dep_docs_in.proofs.document.document.Goals as goal

pub returns-in-Ok : goal.returns-in-Ok
returns-in-Ok c = document-is c.args.content.now _ c.in-Ok.ensures.ok.0 c.in-Ok.ensures.ok.1

pub returns-in_default : goal.returns-in_default
returns-in_default c =
    let other : IsMemory c.in-Err.error → ⊥ = search rules in
    no_document c.args.content.now (c.in-Err.ensures.err other)
