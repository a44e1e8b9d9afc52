use Rattle.std.proofs.Common.{◌∙◌, Bool, List, ℕ, Some, None, if◌then◌else◌, ap}
use Rattle.dep_docs_out.specs.Documents.{upload_data, upload_document, upload_url}
use Rattle.dep_docs_out.proofs.TokenLemmas.{◌⨾◌, whole_text}
use Rattle.dep_docs_out.proofs.upload.upload_doc.Goals as goal

pub returns : goal.returns
unfolding upload_data
returns c =
    let place = c.made_text.ensures (upload_url c.args.config.now c.args.upload.now.upload) c.upload_url.ensures in
    let written = c.text.ensures ⨾ place ⨾ c.text-2.ensures ⨾ c.add_segments.ensures in
    ap (λ (text : List ℕ). Some text) (c.in_ok-ended.ensures.1 ∙ whole_text c.in_ok-document.ensures written c.in_ok-ended.ensures.0)
    ∙ ap (λ (b : Bool). if b then Some (upload_document c.args.config.now c.args.upload.now c.args.received.now) else None) c.if-not-are_segments.ensures
