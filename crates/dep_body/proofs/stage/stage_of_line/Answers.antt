use Rattle.std.proofs.Common.{inl, inr}
use Rattle.dep_body.proofs.SectionSteps.{section_done, section_bad, value_joins, name_joins, broken_joins}
use Rattle.dep_body.proofs.stage.stage_of_line.Goals as goal

pub returns-in-Empty : goal.returns-in-Empty
returns-in-Empty c = λ limit text content cr h. section_done limit content text c.args.state h cr c.in-Empty.is c.if-state.true

pub returns-in-Empty-2 : goal.returns-in-Empty-2
returns-in-Empty-2 c = λ limit text content cr h. section_bad limit content text c.args.state h cr c.in-Empty-2.is c.if-state.false

pub returns-in-Value : goal.returns-in-Value
returns-in-Value c = λ limit text content cr h. c.next_line.ensures limit _ content (value_joins limit content text c.args.state h cr c.in-Value.is)

pub returns-in-Name : goal.returns-in-Name
returns-in-Name c = λ limit text content cr h.
    elim c.in-Name.is [
      | inl e ↦ c.next_line-in-Name.ensures limit _ content (name_joins limit content text c.args.state h cr e)
      | inr e ↦ c.next_line-in-Name.ensures limit _ content (broken_joins limit content text c.args.state h cr e)
    ]
