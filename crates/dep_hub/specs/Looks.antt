-- What a look at a connection shows, before its next request is taken. Words of private functions.
use Rattle.std.specs.Prelude.{◌≡◌, ◌&&◌, Bool, true, false, List}
use Rattle.dep_head.specs.Head.{HeadParts}
use Rattle.dep_message.specs.Places.{Reading}
use Rattle.dep_hub.specs.Claims.{claim_of}
use Rattle.dep_hub.specs.Preparing.{IsLookedAt, is_prepared_first, most_steps}
use Rattle.dep_hub.specs.RepresentsOwing.{HasClaim, IsAnswerable, MayBeLookedAt, KeptBack}
use Rattle.dep_hub.specs.declared.connections.Connection.{Connection}
use Rattle.dep_hub.specs.declared.keeping.Look.{Look}
use Rattle.dep_hub.specs.declared.keeping.Look.TheVariants.{Kept, Claims, Free}
use Rattle.dep_hub.specs.declared.rest.Behind.{Behind}
use Rattle.dep_hub.specs.declared.rest.Behind.TheVariants.{Nothing, Prepares}

-- the next request of a connection wasn't looked at before
abbrev pub is_new : Behind → Bool
is_new Nothing = true
is_new behind = false

-- it is to be prepared: it is one that is prepared first, and wasn't looked at before
abbrev pub is_to_prepare : Behind → HeadParts → Bool
is_to_prepare was head = is_new was && is_prepared_first head

-- what is seen at its head; where nothing is being sent and no request waits, its claim isn't
abbrev pub SeesHead : (was : Behind) → (is_busy : Bool) → HeadParts → Look → Type 0
SeesHead was is_busy head (Kept now) = (is_to_prepare was head ≡ true) × (now ≡ Prepares most_steps)
SeesHead was is_busy head (Claims claim) = (is_to_prepare was head ≡ false) × (claim ≡ claim_of head)
SeesHead was is_busy head Free = (is_to_prepare was head ≡ false) × (is_busy ≡ false)

-- what it shows of the next item: it is kept back, or unless its claim has to wait it may be answered
abbrev pub ShowsItem : List Connection → Reading → (was : Behind) → Look → Type 0
ShowsItem connections reading was (Kept now) = KeptBack connections reading was now
ShowsItem connections reading was (Claims claim) =
    MayBeLookedAt was × IsLookedAt reading was × HasClaim reading was claim
ShowsItem connections reading was Free = IsAnswerable connections reading was
