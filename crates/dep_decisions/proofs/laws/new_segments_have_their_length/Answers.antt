use Rattle.std.proofs.Common.{◌∙◌, sym}
use Rattle.dep_decisions.proofs.SegmentRequests.{size_at}
use Rattle.dep_decisions.proofs.Segments.{fits, new_passes}
use Rattle.dep_decisions.proofs.laws.new_segments_have_their_length.Goals as goal

pub returns-clause-good : goal.returns-clause-good
returns-clause-good c config s op u k upload sends none fitting =
    size_at config op u k sends.target sends.kind s upload sends.there
    ∙ new_passes upload k op.content fitting none

pub returns-clause-passed : goal.returns-clause-passed
returns-clause-passed c config s op u k upload sends none passed =
    fits upload k op.content (sym (size_at config op u k sends.target sends.kind s upload sends.there) ∙ passed) none
