use Rattle.std.specs.Prelude.{⊤}
use Rattle.httpdate.specs.Calendar.{days_of_years, days_of_months}
use Rattle.dep_moment.specs.Civil.{year_from, month_from, civil_of, day_text, rfc3339_text, http_text}

-- what an answer unfolds to compute the text of a moment that is written out
unfoldable pub moment_on_literals : ⊤
unfolding days_of_years days_of_months year_from month_from civil_of day_text rfc3339_text http_text
moment_on_literals = tt
