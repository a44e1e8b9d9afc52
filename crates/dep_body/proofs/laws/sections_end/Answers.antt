use Rattle.dep_body.proofs.SectionEnds.{section_whole, section_begun}
use Rattle.dep_body.proofs.laws.sections_end.Goals as goal

pub returns-clause-whole : goal.returns-clause-whole
returns-clause-whole c = section_whole

pub returns-clause-begun : goal.returns-clause-begun
returns-clause-begun c = section_begun
