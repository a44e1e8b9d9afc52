use Rattle.std.proofs.Common.{◌∙◌, ap, subst}
use Rattle.dep_types.specs.Names.{if_passes, is_media}
use Rattle.dep_head.proofs.AnyError.{on_err}
use Rattle.dep_fields.specs.Fields.{as_it_stands, content_type}
use Rattle.dep_fields.specs.Values.{HasValue, read_from}
use Rattle.dep_fields.proofs.fields.copied_fields.Goals as goal

pub returns-clause-fields : goal.returns-clause-fields
returns-clause-fields c = record {
  packaging = c.in_ok-copied.ensures ∙ ap (read_from as_it_stands) c.single.ensures;
  metadata_format = c.in_ok-copied-2.ensures ∙ ap (read_from as_it_stands) c.single-2.ensures;
  content_encoding = c.in_ok-copied-3.ensures ∙ ap (read_from as_it_stands) c.single-3.ensures;
  content_type = c.in_ok-copied_text.ensures ∙ c.media.ensures ∙ ap (read_from (if_passes is_media)) c.single-4.ensures;
}

pub returns-in_err-copied_text-clause-wanted : goal.returns-in_err-copied_text-clause-wanted
returns-in_err-copied_text-clause-wanted c =
    on_err c.from_residual-in_err-copied_text.result (content_type (subst (λ t. HasValue t) (c.media.ensures ∙ ap (read_from (if_passes is_media)) c.single-4.ensures) c.in_err-copied_text.ensures))
