use Rattle.dep_answers.proofs.Made.{reported_upload}
use Rattle.dep_answers.proofs.laws.openings_are_reported_their_upload.Goals as goal

pub returns : goal.returns
returns c = reported_upload
