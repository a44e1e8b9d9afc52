use Rattle.std.proofs.Common.{◌≡◌, ◌∙◌, refl, ap}
use Rattle.dep_moment.specs.Civil.{Civil, IsCivilOf, civil_of, fixdate_of, http_text}
use Rattle.dep_moment.proofs.Walk.{civil_of-civil}
use Rattle.dep_moment.proofs.OneCivil.{one_civil}
use Rattle.dep_moment.proofs.moment.Moment.http_date.Goals as goal

pub returns : goal.returns
unfolding http_text
returns c =
    let secs = c.self.inside.secs in
    let p = c.in-Ok.date.parts in
    let civil : Civil = record { year = p.year; month = p.mon; day = p.day; hour = p.hour; minute = p.min; second = p.sec } in
    let of_parts : IsCivilOf secs civil = record { date = c.in-Ok.date.civil; time = c.in-Ok.date.time; secs_are = c.in-Ok.ensures.value } in
    let same = one_civil secs civil (civil_of secs) of_parts (civil_of-civil secs c.self.invariant) in
    let spelled : c.to_bytes.result ≡ fixdate_of civil = c.to_bytes.ensures ∙ rw c.in-Ok.date.right_day refl in
    rw (← c.self.view_is) (spelled ∙ ap fixdate_of same)
