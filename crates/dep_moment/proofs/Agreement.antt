-- The calendar of `jiff`, from the year -10000 on, and that of `httpdate`, from 1970 on, count the same days.
use Rattle.std.proofs.Common.{◌≡◌, ℕ, zero, suc, ◌+◌, ◌-◌, ◌/◌, ◌%◌, ◌≤◌, refl, sym, arith, ◌⊎◌, inl, inr, ℤ, pos, negsuc, ◌+ℤ◌, ◌<ℤ◌, ◌≤ℤ◌, subst}
use Rattle.std.specs.Int.RustNames.{unsigned_abs}
use Rattle.std.proofs.lemmas.Int.{ints}
use Rattle.httpdate.specs.Calendar as H
use Rattle.jiff_core.specs.Calendar as J
use Rattle.jiff_core.specs.declared.civil.date.Date.{Date}
use Rattle.jiff_core.specs.Date.{epoch_day, IsYmd}
use Rattle.jiff_core.proofs.CalendarLemmas.{day_count-epoch, day_count-lt_year, days_from_civil-day_count}
use Rattle.jiff_core.proofs.MarchLemmas.{days_of_years-suc, days_in_year-leap_day, leap_day-shift}
use Rattle.jiff_core.proofs.DateLemmas.{civil}
use Rattle.dep_moment.specs.Civil.{IsCivilOf}
use Rattle.jiff_core.proofs.SignedLemmas.{signed_arith}

months_agree : (y n : ℕ) → J.days_of_months (pos y) n ≡ H.days_of_months y n
unfolding J.days_of_months H.days_of_months
months_agree y zero = refl
months_agree y (suc n) = rw (months_agree y n) refl

epoch_years : J.days_of_years 11970 ≡ 4371953
unfolding J.day_count J.days_of_months
epoch_years = omega (arith, day_count-epoch)

years_step : (n : ℕ) → H.days_of_years (suc n) ≡ H.days_of_years n + H.days_in_year (1970 + n)
unfolding H.days_of_years
years_step n = refl

cases_int : (a b : ℤ) → (a <ℤ b) ⊎ (b ≤ℤ a)
cases_int a b = grind (arith, ints)

years_zero : H.days_of_years 0 ≡ 0
unfolding H.days_of_years
years_zero = refl

year_agrees : (y : ℕ) → J.days_in_year (pos y) ≡ H.days_in_year y
year_agrees y = refl

-- the first n years from 1970 on
years_from : (n k : ℕ) → k ≡ n + 11970 → J.days_of_years k ≡ 4371953 + H.days_of_years n
years_from zero k e = let k_is : k ≡ 11970 = omega arith in rw k_is (omega (arith, epoch_years, years_zero))
years_from (suc n) k e =
    let k_is : k ≡ suc (n + 11970) = omega arith in
    let shift : pos (1970 + n) +ℤ pos 10000 ≡ pos (n + 11970) = omega (arith, signed_arith) in
    rw k_is
    (omega (
      arith,
      days_of_years-suc (n + 11970),
      leap_day-shift (pos (1970 + n)) (n + 11970) shift,
      days_in_year-leap_day (pos (1970 + n)),
      year_agrees (1970 + n),
      years_step n,
      years_from n (n + 11970) refl,
    ))

-- the days up to a date from 1970 on
count_agrees : (y m d : ℕ) → 1970 ≤ y → 1 ≤ d → J.day_count (pos y) m d ≡ 4371953 + H.days_from_civil y m d
unfolding J.day_count
count_agrees y m d low first =
    omega (arith, years_from (y - 1970) (y + 10000) (omega arith), months_agree y (m - 1))

-- a date from 1970 on has a year from 1970 on
year_low : (year : ℤ) (m d : ℕ) → J.IsCivilDate year m d → 4371953 ≤ J.day_count year m d → pos 1970 ≤ℤ year
year_low year m d h low = elim (cases_int year (pos 1970)) [
  | inl before ↦ absurd (omega (arith, day_count-lt_year year m d (pos 1970) 1 1 h (omega arith) before, day_count-epoch))
  | inr after ↦ after
]

year_is : (year : ℤ) → pos 1970 ≤ℤ year → (year ≡ pos (unsigned_abs year)) × (1970 ≤ unsigned_abs year)
year_is (pos y) h = (refl, omega (arith, signed_arith))
year_is (negsuc y) h = absurd (omega (arith, signed_arith))

-- a date that is so many days after the first of 1970 is the day of those days
pub date_shows : (d : Date) (days : ℕ) → epoch_day d ≡ pos days
    → (1970 ≤ unsigned_abs d.year) × (H.days_from_civil (unsigned_abs d.year) d.month d.day ≡ days)
    × H.IsCivilDate (unsigned_abs d.year) d.month d.day
date_shows d days h =
    let date = civil d in
    let counted = days_from_civil-day_count d.year d.month d.day in
    let low : 4371953 ≤ J.day_count d.year d.month d.day = omega (arith, signed_arith, h, counted) in
    let is = year_is d.year (year_low d.year d.month d.day date low) in
    let count : J.day_count d.year d.month d.day ≡ 4371953 + H.days_from_civil (unsigned_abs d.year) d.month d.day =
    subst (λ z. J.day_count z d.month d.day ≡ 4371953 + H.days_from_civil (unsigned_abs d.year) d.month d.day) (sym is.0)
    (count_agrees (unsigned_abs d.year) d.month d.day is.1 date.2.0) in
    let within : J.IsCivilDate (pos (unsigned_abs d.year)) d.month d.day = subst (λ z. J.IsCivilDate z d.month d.day) is.0 date in
    let year_in : unsigned_abs d.year ≤ 9999 = omega (arith, signed_arith, within.0) in
    (is.1, omega (arith, signed_arith, h, counted, count), ((is.1, year_in), within.1, within.2))

pub epoch_day-first : (d : Date) → IsYmd (pos 1970) (pos 1) (pos 1) d → epoch_day d ≡ pos 0
epoch_day-first d h =
    let month : d.month ≡ 1 = omega (arith, signed_arith, h.1) in
    let day : d.day ≡ 1 = omega (arith, signed_arith, h.2) in
    rw (h.0, month, day) (omega (arith, signed_arith, days_from_civil-day_count (pos 1970) 1 1, day_count-epoch))

-- the parts of a second, from its day and from what is left of it
pub parts_of : (secs y m d year month day : ℕ) → y ≡ year → m ≡ month → d ≡ day → H.IsCivilDate year month day → H.days_from_civil year month day ≡ secs / 86400
    → IsCivilOf secs (record { year = y; month = m; day = d; hour = secs % 86400 / 3600; minute = secs % 86400 % 3600 / 60; second = secs % 86400 % 60 })
parts_of secs y m d year month day ey em ed date days =
    rw (ey, em, ed)
    (record {
      date = date;
      time = (omega arith, omega arith, omega arith);
      secs_are = omega (arith, days);
    })

pub short_months : (y m : ℕ) → H.days_in_month y m ≤ 31
short_months y m = grind arith
