use Rattle.std.proofs.Common.{refl}
use Rattle.dep_moment.specs.Civil.{day_text}
use Rattle.dep_moment.proofs.moment.Moment.civil_date.Goals as goal

pub returns : goal.returns
unfolding day_text
returns c =
    let day = c.day_of-year.ensures in
    rw (← c.self.view_is, c.four.ensures, c.two.ensures, c.two-2.ensures, day.year, day.month, day.day) refl
