use Rattle.std.proofs.Common.{◌∙◌, ap, subst}
use Rattle.dep_types.specs.Names.{if_passes}
use Rattle.dep_head.proofs.AnyError.{on_err}
use Rattle.dep_fields.specs.Fields.{behalf, disposition, is_behalf}
use Rattle.dep_fields.specs.Kinds.{IsKind, truth}
use Rattle.dep_fields.specs.Values.{HasValue, IsReadFrom, read_from}
use Rattle.dep_fields.specs.Reported.{fields_of}
use Rattle.dep_fields.proofs.OneReporting.{one_reporting}
use Rattle.dep_fields.proofs.ReportedFields.{fields_are_reported}
use Rattle.dep_fields.proofs.fields.SwordFields.read.Goals as goal

pub returns-clause-fields : goal.returns-clause-fields
returns-clause-fields c = record {
  on_behalf_of = c.in_ok-on_behalf_of.ensures ∙ c.behalf.ensures ∙ ap (read_from (if_passes is_behalf)) c.single.ensures;
  disposition = subst (λ t. IsReadFrom IsKind t c.in_ok-disposition.disposition) c.single-2.ensures c.in_ok-disposition.ensures;
  in_progress = c.progress.ensures ∙ ap (read_from truth) c.single-3.ensures;
  packaging = c.in_ok-copies.ensures.fields.packaging;
  metadata_format = c.in_ok-copies.ensures.fields.metadata_format;
  content_type = c.in_ok-copies.ensures.fields.content_type;
  content_encoding = c.in_ok-copies.ensures.fields.content_encoding;
  digest = c.in_ok-digest.ensures;
}

pub returns-clause-one : goal.returns-clause-one
returns-clause-one c = one_reporting c.args.head.now.fields _ (fields_of c.args.head.now.fields) (returns-clause-fields c) (fields_are_reported c.args.head.now.fields)

pub returns-in_err-disposition-clause-wanted : goal.returns-in_err-disposition-clause-wanted
returns-in_err-disposition-clause-wanted c = on_err c.from_residual-in_err-disposition.result (disposition (subst (λ t. HasValue t) c.single-2.ensures c.in_err-disposition.ensures))

pub returns-in_err-on_behalf_of-clause-wanted : goal.returns-in_err-on_behalf_of-clause-wanted
returns-in_err-on_behalf_of-clause-wanted c =
    on_err c.from_residual-in_err-on_behalf_of.result (behalf (subst (λ t. HasValue t) (c.behalf.ensures ∙ ap (read_from (if_passes is_behalf)) c.single.ensures) c.in_err-on_behalf_of.ensures))
