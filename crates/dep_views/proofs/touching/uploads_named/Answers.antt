use Rattle.std.proofs.Common.{◌∙◌, ◌++◌, [], ◌∷◌, ℕ, List, Vec, Global, take, sym, ap}
use Rattle.std.proofs.lemmas.List.{append-nil, take_all}
use Rattle.std.specs.List.{cons_option}
use Rattle.dep_docs_in.specs.declared.reference.Pointed.{Pointed}
use Rattle.dep_decisions.specs.Decisions.{upload_number}
use Rattle.dep_operations.specs.Views.{uploads_named}
use Rattle.dep_views.proofs.Naming.{named_more}
use Rattle.dep_views.proofs.touching.uploads_named.Goals as goal
use Rattle.dep_views.proofs.touching.uploads_named.Goals.{in-Upload+in_ok-push, in_default}

pub loop-reference-preserved : goal.loop-reference-preserved
loop-reference-preserved c =
    let refs = c.args.references.now in
    let i = c.loop-reference.reference-index in
    let before = uploads_named (take i refs) in
    let more = named_more refs i c.reference-item.result c.loop-reference-test.true c.reference-item.is in
    let pointed = λ (t : Pointed). before ++ cons_option (upload_number t) [] in
    let items = λ (v : Vec ℕ Global). v.items in
    elim c.match-reference.branch [
      | in-Upload+in_ok-push w ↦
          ap items w.uploads-is ∙ w.in_ok-push.ensures.items ∙ ap (λ (l : List ℕ). l ++ w.in-Upload.upload ∷ []) c.loop-reference.invariant ∙ sym (more ∙ ap pointed w.in-Upload.is)
      | in_default w ↦
          ap items w.uploads-is ∙ c.loop-reference.invariant ∙ sym (more ∙ ap pointed w.in_default.is ∙ append-nil before)
    ]

pub returns : goal.returns
returns c =
    c.from_vec.ensures ∙ c.loop-reference.invariant
    ∙ ap uploads_named (take_all c.loop-reference.reference-index c.args.references.now c.loop-reference-test.false)
