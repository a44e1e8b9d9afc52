-- What the system says of sockets, as events of a host.
use Rattle.std.specs.Prelude.{ℕ, ◌==◌, List, [], ◌∷◌, Bool, false, ◌||◌, if◌then◌else◌}
use Rattle.mio.specs.declared.event.event.Event.{Event}
use Rattle.mio.specs.Event.{event_token, is_readable, is_writable, is_error, is_read_closed, is_write_closed}
use Rattle.dep_sockets.specs.declared.readiness.Ready.{Ready}

-- the socket failed, or was shut, which the next call at it shows
abbrev pub is_broken : Event → Bool
is_broken e = is_error e || is_read_closed e || is_write_closed e

-- the connection at the token's place
abbrev pub ready_of : Event → Ready
ready_of e = record {
  at = (event_token e).0;
  is_readable = is_readable e || is_broken e;
  is_writable = is_writable e || is_broken e;
}

-- it is of the socket with this token
abbrev pub is_of : (token : ℕ) → Event → Bool
is_of token e = (event_token e).0 == token

-- those of connections, in their order, where the listener has this token
abbrev pub readies_of : (listener : ℕ) → List Event → List Ready
readies_of listener [] = []
readies_of listener (e ∷ events) =
    if is_of listener e then readies_of listener events
    else ready_of e ∷ readies_of listener events

-- whether one is of the listener
abbrev pub has_listener : (listener : ℕ) → List Event → Bool
has_listener listener [] = false
has_listener listener (e ∷ events) = is_of listener e || has_listener listener events
