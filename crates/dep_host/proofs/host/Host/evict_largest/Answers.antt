use Rattle.std.proofs.Common.{◌≡◌, ℕ, [], Option, None, inl, inr, refl, sym, subst, ◌∙◌, arith}
use Rattle.std.proofs.lemmas.Bool.{cases_eq, ltb-true, ltb-false}
use Rattle.std.proofs.lemmas.List.{get_or_past}
use Rattle.std.specs.Prelude.{IsSomeAnd}
use Rattle.dep_slot.specs.declared.slot.Slot.{Slot}
use Rattle.dep_slot.specs.declared.connection_state.Phase.TheVariants.{Open}
use Rattle.dep_host.specs.Actions.{position, slot_at}
use Rattle.dep_host.proofs.HostLemmas.{slot_read, read_there, too_large, evict_one, stays_same}
use Rattle.dep_host.proofs.host.Host.evict_largest.Goals.{else-is_full-via-then-is_full+then-at-len+else-is_read, else-is_full-via-then-is_full+else-at-len, else-is_full-via-else-is_full}
use Rattle.dep_host.proofs.host.Host.evict_largest.Goals as goal

pub close-requires-clause-done : goal.close-requires-clause-done
close-requires-clause-done g c =
    too_large (position c.args.self.now) c.largest-at.result c.args.second _ refl (read_there c.largest-at.result _ _ (omega (arith, c.len.ensures, c.if-at-len.true)) c.index.ensures (c.is_read.ensures.read c.if-is_read.true)) c.largest-at.ensures (ltb-true _ _ (sym c.is_full.ensures ∙ c.if-is_full.true))

pub returns-then-is_read-clause-goes : goal.returns-then-is_read-clause-goes
returns-then-is_read-clause-goes g c =
    evict_one g.A.Archive.condition g.R.Source.unread g.K.Sink.taken g.S.Spool.held _ _ c.largest-at.result c.args.second _ _ _ refl (read_there c.largest-at.result _ _ (omega (arith, c.len.ensures, c.if-at-len.true)) c.index.ensures (c.is_read.ensures.read c.if-is_read.true)) c.close.ensures.goes.goes c.close.ensures.noted

pub returns-then-is_read-clause-left : goal.returns-then-is_read-clause-left
returns-then-is_read-clause-left g c = λ at. elim (cases_eq at c.largest-at.result) [
  | inl e ↦ inr (subst (λ (n : ℕ). slot_at n c.close.new.self.slots.items ≡ None) (sym e) c.close.ensures.goes.gone)
  | inr ne ↦ inl (c.close.ensures.goes.others at ne)
]

pub returns-else-is_full-clause-goes : goal.returns-else-is_full-clause-goes
returns-else-is_full-clause-goes g c = (
  [],
  inl (
    refl,
    elim c.else-is_full.branch [
      | else-is_full-via-else-is_full w ↦ inl (ltb-false _ _ (sym c.is_full.ensures ∙ w.if-is_full.false))
      | else-is_full-via-then-is_full+else-at-len w ↦ inr (
        c.largest-at.result,
        c.largest-at.ensures,
        λ read. subst (λ (o : Option (Slot _ _ _)). IsSomeAnd o (λ slot. slot.state.phase ≡ Open)) (get_or_past _ c.largest-at.result None (omega (arith, w.len.ensures, w.if-at-len.false))) read,
      )
      | else-is_full-via-then-is_full+then-at-len+else-is_read w ↦ inr (
        c.largest-at.result,
        c.largest-at.ensures,
        λ read. w.is_read.ensures.unread w.if-is_read.false (subst (λ (o : Option (Slot _ _ _)). IsSomeAnd o (λ slot. slot.state.phase ≡ Open)) (slot_read c.largest-at.result _ _ (omega (arith, w.len.ensures, w.if-at-len.true)) w.index.ensures) read),
      )
    ],
    refl,
    refl,
  ),
)

pub returns-else-is_full-clause-left : goal.returns-else-is_full-clause-left
returns-else-is_full-clause-left g c = λ at. inl refl

pub returns-else-is_full-clause-stays : goal.returns-else-is_full-clause-stays
returns-else-is_full-clause-stays g c = stays_same _

pub returns-then-is_read-clause-stays : goal.returns-then-is_read-clause-stays
returns-then-is_read-clause-stays g c = c.close.ensures.goes.stays
