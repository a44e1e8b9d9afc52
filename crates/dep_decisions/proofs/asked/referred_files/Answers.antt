use Rattle.std.proofs.Common.{◌∙◌, ◌++◌, [], ◌∷◌, List, Vec, Global, option_map, sym, ap}
use Rattle.std.specs.List.{cons_option}
use Rattle.dep_docs_in.specs.declared.reference.Pointed.{Pointed}
use Rattle.dep_decisions.specs.Decisions.{assembled_file, referred_files, upload_number}
use Rattle.dep_decisions.specs.declared.decision.NewFile.{NewFile}
use Rattle.dep_decisions.proofs.AskedIs.{files_more}
use Rattle.dep_decisions.proofs.asked.referred_files.Goals as goal
use Rattle.dep_decisions.proofs.asked.referred_files.Goals.{in-Upload+in_ok-assembled_file+in_ok-push, in_default}
use Rattle.std.proofs.Common.{take}
use Rattle.std.proofs.lemmas.List.{append-nil}

pub loop-reference-preserved : goal.loop-reference-preserved
loop-reference-preserved c =
    let op = c.args.operation.now in
    let refs = c.args.references.now in
    let i = c.loop-reference.reference-index in
    let r = c.reference-item.result in
    let before = referred_files op (take i refs) in
    let more = files_more op refs i r c.loop-reference-test.true c.reference-item.is in
    let pointed = λ (t : Pointed). before ++ cons_option (option_map (assembled_file op r) (upload_number t)) [] in
    let items = λ (v : Vec NewFile Global). v.items in
    elim c.match-reference.branch [
      | in-Upload+in_ok-assembled_file+in_ok-push w ↦
          ap items w.files-is ∙ w.in_ok-push.ensures.items ∙ ap (λ (l : List NewFile). l ++ w.in_ok-assembled_file.field-0 ∷ []) c.loop-reference.invariant
          ∙ ap (λ (x : NewFile). before ++ x ∷ []) w.in_ok-assembled_file.ensures ∙ sym (more ∙ ap pointed w.in-Upload.is)
      | in_default w ↦
          ap items w.files-is ∙ c.loop-reference.invariant ∙ sym (more ∙ ap pointed w.in_default.is ∙ append-nil before)
    ]
