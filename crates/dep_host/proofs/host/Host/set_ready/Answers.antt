use Rattle.std.proofs.Common.{◌<◌, length, refl, None, ◌∙◌, arith}
use Rattle.std.proofs.lemmas.List.{get_or_past}
use Rattle.dep_slot.specs.Slots.{woken_slot}
use Rattle.dep_host.proofs.HostLemmas.{within_still, free_once_left, free_where_sat, slot_read, stays_same, stays_set}
use Rattle.dep_host.proofs.MeetLemmas.{changes_none, changes_one, changes_nobody}
use Rattle.dep_host.proofs.host.Host.set_ready.Goals as goal

pub returns-else-at-len : goal.returns-else-at-len
returns-else-at-len g c = record {
  same_hub = refl;
  slots = changes_none (λ s. woken_slot s c.args.is_readable c.args.is_writable) _ c.args.at (get_or_past _ c.args.at None (omega (arith, c.len.ensures, c.if-at-len.false)));
  stays = stays_same _;
}

pub returns-in-Some : goal.returns-in-Some
returns-in-Some g c = let there : c.args.at < length c.args.self.now.slots.items = omega (arith, c.len.ensures, c.if-at-len.true) in record {
  same_hub = refl;
  slots = changes_one (λ s. woken_slot s c.args.is_readable c.args.is_writable) _ c.args.at c.in-Some.slot c.set_ready.new.self
      (slot_read _ _ _ there c.index_mut.ensures.value ∙ c.in-Some.is) c.set_ready.ensures;
  stays = stays_set _ _ c.args.at _ refl refl refl refl refl;
}

pub returns-in_default : goal.returns-in_default
returns-in_default g c = let there : c.args.at < length c.args.self.now.slots.items = omega (arith, c.len.ensures, c.if-at-len.true) in record {
  same_hub = refl;
  slots = changes_nobody (λ s. woken_slot s c.args.is_readable c.args.is_writable) _ c.args.at c.index_mut.result.now
      (slot_read _ _ _ there c.index_mut.ensures.value) c.in_default.is;
  stays = stays_set _ _ c.args.at _ refl refl refl refl refl;
}

pub invariant_of-self : goal.invariant_of-self
invariant_of-self g c = let there : c.args.at < length c.args.self.now.slots.items = omega (arith, c.len.ensures, c.if-at-len.true) in record {
  within = within_still _ c.args.at _ _ c.args.self.now.within;
  free = free_where_sat _ c.args.at _ _ c.in-Some.slot (slot_read _ _ _ there c.index_mut.ensures.value ∙ c.in-Some.is) c.args.self.now.free;
}

pub invariant_of-self-in_default : goal.invariant_of-self-in_default
invariant_of-self-in_default g c = record {
  within = within_still _ c.args.at _ _ c.args.self.now.within;
  free = free_once_left _ c.args.at _ _ (omega (arith, c.len.ensures, c.if-at-len.true)) c.in_default.is c.args.self.now.free;
}
