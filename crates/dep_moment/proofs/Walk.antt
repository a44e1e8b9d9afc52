-- The walk over years and months ends at the day and the time of day of its second.
use Rattle.std.proofs.Common.{◌≡◌, ℕ, zero, suc, ◌+◌, ◌-◌, ◌/◌, ◌%◌, ◌<◌, ◌≤◌, true, false, Bool, nat_lt, if◌then◌else◌, refl, ap, arith}
use borrow.Author.Tests.{ltb-true, ltb-false}
use Rattle.httpdate.specs.Calendar.{days_in_year, days_in_month, days_of_years, days_of_months}
use Rattle.httpdate.proofs.CalendarLemmas.{days_of_years_closed, days_of_months_all}
use Rattle.dep_moment.specs.Civil.{IsCivilOf, year_from, month_from, civil_of}
use Rattle.dep_types.specs.Limits.{greatest_moment}

years_none : days_of_years 0 ≡ 0
unfolding days_of_years
years_none = refl

years_more : (k : ℕ) → days_of_years (suc k) ≡ days_of_years k + days_in_year (1970 + k)
unfolding days_of_years
years_more k = refl

months_none : (y : ℕ) → days_of_months y 0 ≡ 0
unfolding days_of_months
months_none y = refl

months_more : (y k : ℕ) → days_of_months y (suc k) ≡ days_of_months y k + days_in_month y (suc k)
unfolding days_of_months
months_more y k = refl

-- the year found.0 and its day found.1 are those of the day so many days after the first k years, among the next n years
record IsYearOf (k n days : ℕ) (found : ℕ × ℕ) : Type 0 where
  from : 1970 + k ≤ found.0
  until : found.0 < 1970 + k + n
  same : days_of_years (found.0 - 1970) + found.1 ≡ days_of_years k + days
  within : found.1 < days_in_year found.0

year_found : (n k y days : ℕ) → y ≡ 1970 + k → days_of_years k + days < days_of_years (k + n) → IsYearOf k n days (year_from n y days)
unfolding year_from
year_found zero k y days e h = let none : k + 0 ≡ k = omega arith in absurd (omega (arith, rw none at h))
year_found (suc n) k y days e h =
    by (nat_lt days (days_in_year y)) refl (λ same less. year_found n (suc k) (suc y) (days - days_in_year y) same less)
  where
    days_are : days_in_year y ≡ days_in_year (1970 + k)
    days_are = ap days_in_year e

    by : (t : Bool) → nat_lt days (days_in_year y) ≡ t
        → (suc y ≡ 1970 + suc k → days_of_years (suc k) + (days - days_in_year y) < days_of_years (suc k + n)
        → IsYearOf (suc k) n (days - days_in_year y) (year_from n (suc y) (days - days_in_year y)))
        → IsYearOf k (suc n) days (if t then (y, days) else year_from n (suc y) (days - days_in_year y))
    by true t _ =
        let k_is : y - 1970 ≡ k = omega arith in
        record { from = omega arith; until = omega arith; same = rw k_is refl; within = ltb-true _ _ t }
    by false t further =
        let long : days_in_year y ≤ days = ltb-false _ _ t in
        let step = years_more k in
        let next : k + suc n ≡ suc k + n = omega arith in
        let rest = further (omega arith) (omega (arith, days_are, rw next at h)) in
        record { from = omega arith; until = omega arith; same = omega (arith, days_are); within = rest.within }

-- the month found.0 and its day found.1 are those of the day so many days after the first k months, among the next n months
record IsMonthOf (y k n days : ℕ) (found : ℕ × ℕ) : Type 0 where
  from : suc k ≤ found.0
  until : found.0 < suc k + n
  same : days_of_months y (found.0 - 1) + found.1 ≡ days_of_months y k + days
  within : found.1 < days_in_month y found.0

month_found : (n y k days : ℕ) → days_of_months y k + days < days_of_months y (k + n) → IsMonthOf y k n days (month_from n y (suc k) days)
unfolding month_from
month_found zero y k days h = let none : k + 0 ≡ k = omega arith in absurd (omega (arith, rw none at h))
month_found (suc n) y k days h =
    by (nat_lt days (days_in_month y (suc k))) refl (λ less. month_found n y (suc k) (days - days_in_month y (suc k)) less)
  where
    by : (t : Bool) → nat_lt days (days_in_month y (suc k)) ≡ t
        → (days_of_months y (suc k) + (days - days_in_month y (suc k)) < days_of_months y (suc k + n)
        → IsMonthOf y (suc k) n (days - days_in_month y (suc k)) (month_from n y (suc (suc k)) (days - days_in_month y (suc k))))
        → IsMonthOf y k (suc n) days (if t then (suc k, days) else month_from n y (suc (suc k)) (days - days_in_month y (suc k)))
    by true t _ =
        let k_is : suc k - 1 ≡ k = omega arith in
        record { from = omega arith; until = omega arith; same = rw k_is refl; within = ltb-true _ _ t }
    by false t further =
        let long : days_in_month y (suc k) ≤ days = ltb-false _ _ t in
        let step = months_more y k in
        let next : k + suc n ≡ suc k + n = omega arith in
        let rest = further (omega (arith, rw next at h)) in
        record { from = omega arith; until = omega arith; same = omega arith; within = rest.within }

-- the day and the time of day, from the year found and the month found
on_day-civil : (secs : ℕ) (year month : ℕ × ℕ) → IsYearOf 0 8030 (secs / 86400) year → IsMonthOf year.0 0 12 year.1 month
    → IsCivilOf secs (record { year = year.0; month = month.0; day = month.1 + 1; hour = secs % 86400 / 3600; minute = secs % 86400 % 3600 / 60; second = secs % 86400 % 60 })
on_day-civil secs year month y m =
    record {
      date = ((omega (arith, y.from), omega (arith, y.until)), (omega (arith, m.from), omega (arith, m.until)), (omega arith, omega (arith, m.within)));
      time = (omega arith, omega arith, omega arith);
      secs_are = omega (arith, y.same, m.same, years_none, months_none year.0);
    }

pub civil_of-civil : (secs : ℕ) → secs ≤ greatest_moment → IsCivilOf secs (civil_of secs)
unfolding civil_of
civil_of-civil secs h =
    let year : IsYearOf 0 8030 (secs / 86400) (year_from 8030 1970 (secs / 86400)) =
    year_found 8030 0 1970 (secs / 86400) refl (omega (arith, years_none, days_of_years_closed 8030)) in
    let month : IsMonthOf (year_from 8030 1970 (secs / 86400)).0 0 12 (year_from 8030 1970 (secs / 86400)).1
    (month_from 12 (year_from 8030 1970 (secs / 86400)).0 1 (year_from 8030 1970 (secs / 86400)).1) =
    month_found 12 (year_from 8030 1970 (secs / 86400)).0 0 (year_from 8030 1970 (secs / 86400)).1
    (omega (arith, year.within, days_of_months_all (year_from 8030 1970 (secs / 86400)).0, months_none (year_from 8030 1970 (secs / 86400)).0)) in
    on_day-civil secs _ _ year month
