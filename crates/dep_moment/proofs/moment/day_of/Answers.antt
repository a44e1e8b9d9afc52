use Rattle.std.proofs.Common.{◌≡◌, ◌∙◌, ◌/◌, ◌<◌, ◌≤◌, ℕ, ap, arith, ℤ, pos, ◌+ℤ◌, to_z, of_z, w8, w16, w64}
use Rattle.std.proofs.lemmas.Int.{to_z_pos}
use Rattle.std.specs.Int.RustNames.{unsigned_abs}
use Rattle.jiff_core.proofs.SignedLemmas.{back_small, signed_arith}
use Rattle.jiff.proofs.SpanFacts.{date_add-days, can_add-days}
use Rattle.jiff.specs.Words.{epoch_day, IsEpochDay}
use Rattle.httpdate.specs.Calendar.{IsCivilDate}
use Rattle.dep_types.specs.Limits.{greatest_moment}
use Rattle.dep_moment.specs.Civil.{Civil, civil_of}
use Rattle.dep_moment.proofs.Agreement.{date_shows, epoch_day-first, parts_of, short_months}
use Rattle.dep_moment.proofs.Walk.{civil_of-civil}
use Rattle.dep_moment.proofs.OneCivil.{one_civil}
use Rattle.dep_moment.proofs.moment.day_of.Goals as goal

-- the days of a moment fit where the calendar counts them
days_are : (secs : ℕ) → secs ≤ greatest_moment → to_z w64 (secs / 86400) ≡ pos (secs / 86400)
days_are secs h = to_z_pos w64 (secs / 86400) (omega arith)

in_calendar : (secs : ℕ) → secs ≤ greatest_moment → IsEpochDay (pos (secs / 86400))
in_calendar secs h = (omega (arith, signed_arith), omega (arith, signed_arith))

days_after : (first n : ℤ) (days : ℕ) → first ≡ pos 0 → n ≡ pos days → first +ℤ n ≡ pos days
days_after first n days first_is n_is = rw (first_is, n_is) (ap pos (omega arith))

year_kept : (year : ℤ) → unsigned_abs year ≤ 9999 → unsigned_abs (to_z w16 (of_z w16 year)) ≡ unsigned_abs year
year_kept year h = ap unsigned_abs (back_small w16 year (omega arith))

small_kept : (n : ℕ) → n ≤ 31 → unsigned_abs (to_z w8 (of_z w8 (pos n))) ≡ n
small_kept n h = ap unsigned_abs (back_small w8 (pos n) (omega arith))

in_month : (year month day : ℕ) → IsCivilDate year month day → (year ≤ 9999) × ((month ≤ 31) × (day ≤ 31))
in_month year month day h = (h.0.1, (omega (arith, h), omega (arith, h, short_months year month)))

digits_fit : (year month day : ℕ) → IsCivilDate year month day → (year < 10000) × (month < 100) × (day < 100)
digits_fit year month day h = let short = in_month year month day h in (omega arith, omega arith, omega arith)

pub unreachable-requires : goal.unreachable-requires
unreachable-requires c =
    let secs = c.args.secs in
    let start = epoch_day-first c.date.result c.date.ensures in
    let days = days_after _ _ _ start (days_are secs c.requires) in
    let day : IsEpochDay (epoch_day c.date.result +ℤ to_z w64 (secs / 86400)) = rw days (in_calendar secs c.requires) in
    let ok = c.checked_add.ensures.succeeds.1 ((can_add-days c.date.result (to_z w64 (secs / 86400)) c.days.result c.days.ensures).1 day) in
    let bad = rw c.in_default.is at ok in
    cc bad

pub returns : goal.returns
returns c =
    let secs = c.args.secs in
    let start = epoch_day-first c.date.result c.date.ensures in
    let added = c.in-Ok.ensures.value ∙ date_add-days c.date.result (to_z w64 (secs / 86400)) c.days.result c.days.ensures in
    let days = added ∙ days_after _ _ _ start (days_are secs c.requires) in
    let shown = date_shows c.in-Ok.day (secs / 86400) days in
    let short = in_month _ _ _ shown.2 in
    let year = c.unsigned_abs.ensures.value ∙ rw c.year.ensures (year_kept c.in-Ok.day.year short.0) in
    let month = c.unsigned_abs-2.ensures.value ∙ rw c.month.ensures (small_kept c.in-Ok.day.month short.1.0) in
    let day = c.unsigned_abs-3.ensures.value ∙ rw c.day.ensures (small_kept c.in-Ok.day.day short.1.1) in
    let of_parts = parts_of secs _ _ _ _ _ _ year month day shown.2 shown.1 in
    let same = one_civil secs _ (civil_of secs) of_parts (civil_of-civil secs c.requires) in
    record {
      year = ap (λ (z : Civil). z.year) same;
      month = ap (λ (z : Civil). z.month) same;
      day = ap (λ (z : Civil). z.day) same;
      digits = digits_fit _ _ _ of_parts.date;
    }
