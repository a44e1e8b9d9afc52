-- A second has one day and one time of day.
use Rattle.std.proofs.Common.{◌≡◌, ℕ, ◌+◌, ◌*◌, ◌<◌, ◌∙◌, sym, ap, arith}
use Rattle.std.proofs.lemmas.Bool.{cases_order}
use Rattle.httpdate.specs.Calendar.{IsCivilDate, days_from_civil}
use Rattle.httpdate.proofs.CalendarLemmas.{days_from_civil_year, days_from_civil_month}
use Rattle.dep_moment.specs.Civil.{Civil, IsCivilOf}

same_year : (y m d y₂ m₂ d₂ : ℕ) → IsCivilDate y m d → IsCivilDate y₂ m₂ d₂ → days_from_civil y m d ≡ days_from_civil y₂ m₂ d₂ → y ≡ y₂
same_year y m d y₂ m₂ d₂ h k e =
    let not_before : y < y₂ → ⊥ = λ lt. omega (arith, days_from_civil_year y m d y₂ m₂ d₂ h lt) in
    let not_after : y₂ < y → ⊥ = λ lt. omega (arith, days_from_civil_year y₂ m₂ d₂ y m d k lt) in
    grind (arith, cases_order y y₂)

same_month : (y m d m₂ d₂ : ℕ) → IsCivilDate y m d → IsCivilDate y m₂ d₂ → days_from_civil y m d ≡ days_from_civil y m₂ d₂ → m ≡ m₂
same_month y m d m₂ d₂ h k e =
    let not_before : m < m₂ → ⊥ = λ lt. omega (arith, days_from_civil_month y m d m₂ d₂ h lt) in
    let not_after : m₂ < m → ⊥ = λ lt. omega (arith, days_from_civil_month y m₂ d₂ m d k lt) in
    grind (arith, cases_order m m₂)

same_date : (y m d y₂ m₂ d₂ : ℕ) → IsCivilDate y m d → IsCivilDate y₂ m₂ d₂ → days_from_civil y m d ≡ days_from_civil y₂ m₂ d₂
    → (y ≡ y₂) × (m ≡ m₂) × (d ≡ d₂)
same_date y m d y₂ m₂ d₂ h k e =
    let year = same_year y m d y₂ m₂ d₂ h k e in
    let k_here : IsCivilDate y m₂ d₂ = rw (year) k in
    let e_here : days_from_civil y m d ≡ days_from_civil y m₂ d₂ = e ∙ ap (λ z. days_from_civil z m₂ d₂) (sym year) in
    let month = same_month y m d m₂ d₂ h k_here e_here in
    let last : days_from_civil y m d ≡ days_from_civil y m d₂ = e_here ∙ ap (λ z. days_from_civil y z d₂) (sym month) in
    (year, month, omega (arith, h.2.0, k.2.0))

same_parts : (days h m s days₂ h₂ m₂ s₂ : ℕ) → h < 24 → m < 60 → s < 60 → h₂ < 24 → m₂ < 60 → s₂ < 60
    → days * 86400 + h * 3600 + m * 60 + s ≡ days₂ * 86400 + h₂ * 3600 + m₂ * 60 + s₂ → (days ≡ days₂) × (h ≡ h₂) × (m ≡ m₂) × (s ≡ s₂)
same_parts days h m s days₂ h₂ m₂ s₂ a b c x y z e = omega arith

pub one_civil : (secs : ℕ) (a b : Civil) → IsCivilOf secs a → IsCivilOf secs b → a ≡ b
one_civil secs a b h k =
    let parts = same_parts (days_from_civil a.year a.month a.day) a.hour a.minute a.second (days_from_civil b.year b.month b.day) b.hour b.minute b.second
    h.time.0 h.time.1 h.time.2 k.time.0 k.time.1 k.time.2 (omega (arith, h.secs_are, k.secs_are)) in
    let date = same_date _ _ _ _ _ _ h.date k.date parts.0 in
    λ i. record { year = date.0 i; month = date.1 i; day = date.2 i; hour = parts.1 i; minute = parts.2 i; second = parts.3 i }
