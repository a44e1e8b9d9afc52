use Rattle.std.proofs.Common.{◌∙◌, ap}
use Rattle.dep_operations.specs.Views.{segment_in, uploads_looked_up}
use Rattle.dep_views.proofs.touching.touches.Goals as goal

pub returns : goal.returns
returns c = record {
  ok = let resource = c.args.operation.now.target.resource in
      let references = c.in_ok-references.ensures in
      let uploads = c.in_ok-uploads.ensures ∙ ap (uploads_looked_up resource) (c.as_ref.ensures.value ∙ references) in
      let segment = c.segment_in.ensures ∙ ap (segment_in resource) c.requires in
      (λ i. record {
        object = c.object_in.ensures i;
        file = c.file_in.ensures i;
        path = c.in_ok-path.ensures i;
        uploads = uploads i;
        segment = segment i;
        references = references i;
      });
}
