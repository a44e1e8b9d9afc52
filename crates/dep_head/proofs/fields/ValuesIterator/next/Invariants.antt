use Rattle.std.proofs.Common.{◌≡◌, length}
use Rattle.dep_head.specs.Head.{values_of}
use Rattle.dep_head.specs.Spans.{fields_at, AreWithin}
use Rattle.dep_head.proofs.fields.ValuesIterator.next.Given as goal

-- the fields passed over have another name
abbrev pub invariant-loop-first : goal.invariant-loop-first
invariant-loop-first l = record {
  fit : AreWithin l.self-inside.text.now l.self-inside.fields.now;
  same : values_of (fields_at l.initial.self-inside.text.now l.initial.self-inside.fields.now) l.initial.self-inside.name.now
      ≡ values_of (fields_at l.self-inside.text.now l.self-inside.fields.now) l.self-inside.name.now;
}

abbrev pub decreases-loop-first : goal.decreases-loop-first
decreases-loop-first l = length l.self-inside.fields.now
