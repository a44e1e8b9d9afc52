use Rattle.std.proofs.Common.{◌∙◌}
use Rattle.std.proofs.lemmas.Result.{IfOk-weaker}
use Rattle.dep_docs_out.specs.Documents.{error_data, log_of}
use Rattle.dep_docs_out.proofs.TokenLemmas.{◌⨾◌, whole_text}
use Rattle.dep_docs_out.proofs.error.error_doc.Goals as goal

pub returns : goal.returns
unfolding error_data
returns c =
    let name = rw c.name.ensures at c.text-2.ensures in
    let reported = rw c.text-3.ensures at c.text-4.ensures in
    let log = c.made_text.ensures (log_of c.args.refusal) c.log_text.ensures in
    let written = c.text.ensures ⨾ name ⨾ reported ⨾ log ⨾ c.moment.ensures in
    IfOk-weaker c.ended.result _ _ (λ text e. e.1 ∙ whole_text c.in_ok-document.ensures written e.0) c.ended.ensures
