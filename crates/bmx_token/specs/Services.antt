-- What serving a queue, or acquiring a token, would lead to, told before it is done.
use Rattle.std.specs.Prelude.{◌≡◌, Bool, true, false, [], ◌∷◌, refl}
use Rattle.bmx_types.specs.declared.numbers.Mode.TheVariants.{Read, Write}
use Rattle.bmx_token.specs.declared.answers.Acquire.{Acquire}
use Rattle.bmx_token.specs.declared.answers.Acquire.TheVariants as acquire_is
use Rattle.bmx_token.specs.declared.answers.Served.{Served}
use Rattle.bmx_token.specs.declared.answers.Served.TheVariants as served_is
use Rattle.bmx_token.specs.declared.answers.Service.{Service}
use Rattle.bmx_token.specs.declared.answers.Service.TheVariants as service_is
use Rattle.bmx_token.specs.Tokens.{owner_part, serve}

-- what was served, without the lists that go with it
abbrev pub service_of : Served → Service
service_of served_is.Idle = service_is.Idle
service_of served_is.Ready = service_is.Ready
service_of (served_is.Read asker) = service_is.Read asker
service_of (served_is.Revokes nodes) = service_is.Revokes
service_of (served_is.Moves to rest) = service_is.Moves to

-- another node is asked
abbrev pub is_asking : Acquire → Bool
is_asking acquire_is.Held = false
is_asking (acquire_is.Asks parent) = true
is_asking acquire_is.Waits = false
is_asking acquire_is.Refused = false

-- node 2 reads, and node 1 asks to write: the reader is to be told
the_reader_is_told :
    service_of (serve 0 (record owner_part { readers = 2 ∷ []; queue = record { asker = 1; mode = Write } ∷ [] })).1
    ≡ service_is.Revokes
the_reader_is_told = refl

-- without it ownership moves
ownership_would_move :
    service_of (serve 0 (record owner_part { queue = record { asker = 1; mode = Write } ∷ record { asker = 2; mode = Read } ∷ [] })).1
    ≡ service_is.Moves 1
ownership_would_move = refl
