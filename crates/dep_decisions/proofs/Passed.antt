-- The rules that a request passed, where nothing refuses it.
use Rattle.std.proofs.Common.{◌≡◌, ◌∙◌, true, List, [], ◌∷◌, Option, None, if◌then◌else◌, sym, ap}
use Rattle.dep_types.specs.Maps.{first_of}
use Rattle.dep_types.specs.Numbers.{room_for}
use Rattle.dep_types.specs.declared.config.Config.{Config}
use Rattle.dep_types.specs.declared.refusal.Refusal.{Refusal}
use Rattle.dep_types.specs.declared.refusal.Refusal.TheVariants.{StoreFull}
use Rattle.dep_decisions.specs.Decisions.{decision_with, numbers_for}
use Rattle.dep_decisions.specs.LookUps.{LookUps}
use Rattle.dep_decisions.specs.Rules.{access_refusal, behalf_rule, content_by, content_refusal, digest_rule, document_rule, encoding_rule, fields_refusal, has_content, kind_rule, presence_rule, reads_alone, refusal_by, room_rule, size_rule, tag_rule}
use Rattle.dep_decisions.specs.declared.operation.Operation.{Operation}
use Rattle.dep_decisions.proofs.FoundInMaps.{AllPassed, all_passed, unless-none}

pub record ContentPassed {U : Type 0} (config : Config) (l : LookUps U) (op : Operation) : Type 0 where
  pub fields : fields_refusal op ≡ None
  pub kind : kind_rule op ≡ None
  pub digest : digest_rule op ≡ None
  pub document : document_rule config l op ≡ None
  pub size : size_rule config l op ≡ None

-- whatever rules stand behind them
second_passed : (a b : Option Refusal) (rest : List (Option Refusal)) → first_of (a ∷ b ∷ rest) ≡ None → b ≡ None
second_passed a b rest e = (all_passed (a ∷ b ∷ rest) e).1.0

module _ {U : Type 0} (config : Config) (l : LookUps U) (op : Operation) (accepted : refusal_by config l op ≡ None) where
  parts : AllPassed (access_refusal config l op ∷ content_refusal config l op ∷ room_rule config l op ∷ [])
  unfolding refusal_by
  parts = all_passed (access_refusal config l op ∷ content_refusal config l op ∷ room_rule config l op ∷ []) accepted

  access : AllPassed (behalf_rule config op ∷ presence_rule l op ∷ (if reads_alone op.target.resource op.target.method then None else tag_rule config l op) ∷ [])
  unfolding access_refusal
  access = all_passed (behalf_rule config op ∷ presence_rule l op ∷ (if reads_alone op.target.resource op.target.method then None else tag_rule config l op) ∷ []) parts.0

  pub behalf_passed : behalf_rule config op ≡ None
  behalf_passed = access.0

  pub presence_passed : presence_rule l op ≡ None
  presence_passed = access.1.0

  pub content_passed : has_content op.target.method ≡ true → ContentPassed config l op
  unfolding content_refusal content_by fields_refusal
  content_passed has =
      let content = all_passed (fields_refusal op ∷ digest_rule op ∷ document_rule config l op ∷ size_rule config l op ∷ [])
      (ap (λ b. if b then content_by config l op else None) (sym has) ∙ parts.1.0) in
      let kind = second_passed (encoding_rule op) (kind_rule op) _ content.0 in
      record { fields = content.0; kind = kind; digest = content.1.0; document = content.1.1.0; size = content.1.1.1.0 }

  -- there is room for the numbers that it takes
  pub has_room : room_for l.next (numbers_for (decision_with (l.references config op) op)) ≡ true
  unfolding room_rule
  has_room = unless-none _ StoreFull parts.1.1.0
