-- The effects of a connection's calls.
use Rattle.std.proofs.Common.{◌≡◌, ℕ, ◌-◌, ◌<◌, ◌≤◌, Bool, false, List, [], ◌++◌, append-nil, refl, sym, ap, ◌∙◌, subst, length, take, drop, min, arith}
use Rattle.std.proofs.lemmas.List.{length-take, length-take-le, take-append-drop, take-take}
use Rattle.sv_connection.specs.States.{ConnectionState}
use Rattle.sv_connection.specs.Steps.{SendsOn}
use Rattle.sv_connection.specs.Ways.{TriesWrite, Ways}
use Rattle.sv_connection.specs.declared.allowance.Allowance.{Allowance}
use Rattle.sv_connection.specs.declared.peer.Tried.TheVariants.{Done}
use Rattle.sv_connection.specs.declared.phase.Phase.{Phase}
use Rattle.sv_connection.specs.declared.step.Step.TheVariants.{GoesOn}
use Rattle.sv_streams.specs.Calls.{Took}

-- A count of bytes in a front is at most the length of this front and of the whole.
within_front : (count limit : ℕ) (bytes : List ℕ) → count ≤ length (take limit bytes) → (count ≤ limit) × (count ≤ length bytes)
within_front count limit bytes within = let long : length (take limit bytes) ≡ min limit (length bytes) = length-take limit bytes in (omega arith, omega arith)

pub within_limit : (count limit : ℕ) (bytes front : List ℕ) → count ≤ length front → front ≡ take limit bytes → count ≤ limit
within_limit count limit bytes front within is =
    let F : List ℕ → Type 0 = λ l. count ≤ length l in
    (within_front count limit bytes (subst F is within)).0

pub taken_within : (count limit : ℕ) (bytes front : List ℕ) → count ≤ length front → front ≡ take limit bytes → count ≤ length bytes
taken_within count limit bytes front within is =
    let F : List ℕ → Type 0 = λ l. count ≤ length l in
    (within_front count limit bytes (subst F is within)).1

pub some_taken : (count : ℕ) (bytes : List ℕ) → count ≤ length bytes → 0 < count → 0 < length (take count bytes)
some_taken count bytes within some = let taken : length (take count bytes) ≡ count = length-take-le count bytes within in omega arith

module _ {S : Type 0} (ways : Ways S) where
  -- A write took some bytes of a front.
  pub wrote : (at : ConnectionState S) (stream stream_after : S) (ahead unsent left written : List ℕ) (phase : Phase) (rests : Bool) (under_way : ℕ) (count : ℕ) (allowed : Allowance)
      → record { stream = stream; ahead = ahead; unsent = unsent; phase = phase; rests = rests; under_way = under_way } ≡ at → 0 < allowed.calls
      → TriesWrite ways stream (Done count) written stream_after → written ≡ take allowed.bytes unsent → left ≡ drop count unsent
      → SendsOn ways at allowed GoesOn (record { stream = stream_after; ahead = ahead; unsent = left; phase = phase; rests = false; under_way = under_way })
      (record { calls = allowed.calls - 1; bytes = allowed.bytes - count })
  wrote at stream stream_after ahead unsent left written phase rests under_way count allowed view calls tried same is =
      let before : ConnectionState S = record { stream = stream; ahead = ahead; unsent = unsent; phase = phase; rests = rests; under_way = under_way } in
      let after : ConnectionState S = record { stream = stream_after; ahead = ahead; unsent = left; phase = phase; rests = false; under_way = under_way } in
      let T : List ℕ → Type 0 = λ bytes. TriesWrite ways stream (Done count) bytes stream_after in
      let here : TriesWrite ways stream (Done count) (take allowed.bytes unsent) stream_after = subst T same tried in
      let within : (count ≤ allowed.bytes) × (count ≤ length unsent) = within_front count allowed.bytes unsent here.1 in
      let M : List ℕ → Type 0 = λ bytes. ways.makes stream (Took bytes) stream_after in
      let P : ConnectionState S → Type 0 = λ s. SendsOn ways s allowed GoesOn after (record { calls = allowed.calls - 1; bytes = allowed.bytes - count }) in
      let long : length (take count unsent ++ []) ≡ count = ap length (append-nil (take count unsent)) ∙ length-take-le count unsent within.1 in
      subst P view (
        take count unsent,
        (
          some_taken count unsent within.1 here.0,
          subst M (take-take count allowed.bytes unsent within.0) here.2,
          sym (take-append-drop count unsent) ∙ ap (λ rest. take count unsent ++ rest) (sym is),
          refl,
        ),
        (omega arith, omega arith),
      )
