-- Seconds since 1970 as a day and a time of day in UTC, and the texts of both (RFC 3339; RFC 9110,
-- section 5.6.7).
use Rattle.std.specs.Prelude.{◌≡◌, ℕ, zero, suc, ◌+◌, ◌-◌, ◌/◌, ◌%◌, nat_lt, List, ◌++◌, codes, if◌then◌else◌}
use Rattle.httpdate.specs.Calendar.{IsCivilDate, IsTimeOfDay, days_in_year, days_in_month, days_from_civil, seconds_from_civil, weekday}
use Rattle.httpdate.specs.Text.{day_name, month_name, two_digits, four_digits}

-- a day of the Gregorian calendar and a time of day
pub record Civil : Type 0 where
  pub year : ℕ
  pub month : ℕ
  pub day : ℕ
  pub hour : ℕ
  pub minute : ℕ
  pub second : ℕ

-- the day and the time of day of this second
pub record IsCivilOf (secs : ℕ) (c : Civil) : Type 0 where
  pub date : IsCivilDate c.year c.month c.day
  pub time : IsTimeOfDay c.hour c.minute c.second
  pub secs_are : seconds_from_civil c.year c.month c.day c.hour c.minute c.second ≡ secs

-- the year of a day, from the days since the year y began, and the days of that year before it;
-- n years are looked at
unfoldable pub year_from : (n y days : ℕ) → ℕ × ℕ
year_from zero y days = (y, days)
year_from (suc n) y days =
    if nat_lt days (days_in_year y) then (y, days)
    else year_from n (suc y) (days - days_in_year y)

-- the same of the months of a year
unfoldable pub month_from : (n y m days : ℕ) → ℕ × ℕ
month_from zero y m days = (m, days)
month_from (suc n) y m days =
    if nat_lt days (days_in_month y m) then (m, days)
    else month_from n y (suc m) (days - days_in_month y m)

abbrev pub on_day : (year_and_day : ℕ × ℕ) → (rest : ℕ) → Civil
on_day yd rest = record {
  year = yd.0;
  month = (month_from 12 yd.0 1 yd.1).0;
  day = (month_from 12 yd.0 1 yd.1).1 + 1;
  hour = rest / 3600;
  minute = rest % 3600 / 60;
  second = rest % 60;
}

-- the day and the time of day of a second up to the end of the year 9999
unfoldable pub civil_of : ℕ → Civil
civil_of secs = on_day (year_from 8030 1970 (secs / 86400)) (secs % 86400)

-- `2018-04-16`
abbrev pub date_of : Civil → List ℕ
date_of c = four_digits c.year ++ codes "-" ++ two_digits c.month ++ codes "-" ++ two_digits c.day

-- `01:02:03`
abbrev pub time_of : Civil → List ℕ
time_of c = two_digits c.hour ++ codes ":" ++ two_digits c.minute ++ codes ":" ++ two_digits c.second

-- `Mon, 16 Apr 2018 01:02:03 GMT`
abbrev pub fixdate_of : Civil → List ℕ
fixdate_of c =
    day_name (weekday (days_from_civil c.year c.month c.day)) ++ codes ", " ++ two_digits c.day ++ codes " "
    ++ month_name c.month ++ codes " " ++ four_digits c.year ++ codes " " ++ time_of c ++ codes " GMT"

-- the day of a moment, `2018-04-16`
unfoldable pub day_text : ℕ → List ℕ
day_text secs = date_of (civil_of secs)

-- a moment, `2018-04-16T01:02:03Z`
unfoldable pub rfc3339_text : ℕ → List ℕ
rfc3339_text secs = date_of (civil_of secs) ++ codes "T" ++ time_of (civil_of secs) ++ codes "Z"

-- a moment, `Mon, 16 Apr 2018 01:02:03 GMT`
unfoldable pub http_text : ℕ → List ℕ
http_text secs = fixdate_of (civil_of secs)
