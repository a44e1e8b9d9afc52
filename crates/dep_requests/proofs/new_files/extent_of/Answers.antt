use Rattle.std.specs.Prelude.{slice_get}
use Rattle.dep_requests.proofs.NewObject.{posted_extent, whole_extent}
use Rattle.dep_requests.proofs.new_files.extent_of.Goals as goal

pub returns-in-Posted : goal.returns-in-Posted
returns-in-Posted c s source =
    posted_extent s c.args.change.now.content.now (slice_get c.args.change.now.view.now.uploads c.args.index) c.args.source c.in-Posted.digests c.as_slice.result.now c.in-Posted.is c.as_slice.ensures source

pub returns-in_ok-upload-in-Assembled : goal.returns-in_ok-upload-in-Assembled
returns-in_ok-upload-in-Assembled c s source =
    whole_extent s c.args.change.now.content.now (slice_get c.args.change.now.view.now.uploads c.args.index) c.args.source _ c.in_ok-upload-in-Assembled.upload.row c.in_ok-upload-in-Assembled.upload.digests c.in-Assembled.is c.in_ok-upload-in-Assembled.ensures.reported source
