-- Over each step of a request a segment that was received stays while its upload is there, and so does an object
-- whose tag was given before.
use Rattle.std.proofs.Common.{Option, Some, None}
use Rattle.dep_types.specs.State.{State}
use Rattle.dep_types.specs.declared.config.Config.{Config}
use Rattle.dep_types.specs.declared.refusal.Refusal.{Refusal}
use Rattle.dep_decisions.specs.Laws.{KeepsObjects, KeepsSegments}
use Rattle.dep_decisions.specs.Rules.{refusal}
use Rattle.dep_decisions.specs.declared.operation.Operation.{Operation}
use Rattle.dep_decisions.proofs.ObjectsStay.{effect_keeps_objects, keeps_objects_refl}
use Rattle.dep_decisions.proofs.SegmentsStay.{effect_keeps_segments, keeps_segments_refl}
use Rattle.dep_answers.specs.Steps.{operation_step, step_by}

by_refusal : (config : Config) (s : State) (op : Operation) (r : Option Refusal) → KeepsSegments s (step_by config s op r).state
by_refusal config s op None = effect_keeps_segments config s op
by_refusal config s op (Some r) = keeps_segments_refl s

pub step_keeps_segments : (config : Config) (s : State) (op : Operation) → KeepsSegments s (operation_step config s op).state
unfolding operation_step
step_keeps_segments config s op = by_refusal config s op (refusal config s op)

objects_by_refusal : (config : Config) (s : State) (op : Operation) (r : Option Refusal) → KeepsObjects s (step_by config s op r).state
objects_by_refusal config s op None = effect_keeps_objects config s op
objects_by_refusal config s op (Some r) = keeps_objects_refl s

pub step_keeps_objects : (config : Config) (s : State) (op : Operation) → KeepsObjects s (operation_step config s op).state
unfolding operation_step
step_keeps_objects config s op = objects_by_refusal config s op (refusal config s op)
