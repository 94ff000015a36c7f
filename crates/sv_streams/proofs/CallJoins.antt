-- Calls that follow other calls.
use Rattle.std.proofs.Common.{◌≡◌, ℕ, ◌+◌, ◌<◌, Bool, true, false, ◌||◌, List, [], ◌∷◌, ◌++◌, Ok, Err, Result, refl, subst, sym, ap, ◌∙◌, append_assoc, length, map, arith}
use Rattle.std.proofs.lemmas.List.{map-append}
use Rattle.std.specs.List.{concat}
use Rattle.sv_streams.specs.Calls.{AreMade, AreWrites, Call, Making, Took, WriteFailed, WritesAll, bytes_given, bytes_taken, failures, given, is_end, is_failure, is_read, meets_end, reads, taken}
use Rattle.sv_streams.specs.declared.stream.WriteFailed.{WriteFailed as WriteFault}

pub taken_join : (calls more : List Call) → taken (calls ++ more) ≡ taken calls ++ taken more
taken_join [] more = refl
taken_join (call ∷ calls) more =
    ap (λ bytes. bytes_taken call ++ bytes) (taken_join calls more) ∙ sym (append_assoc (bytes_taken call) (taken calls) (taken more))

pub given_join : (calls more : List Call) → given (calls ++ more) ≡ given calls ++ given more
given_join [] more = refl
given_join (call ∷ calls) more =
    ap (λ bytes. bytes_given call ++ bytes) (given_join calls more) ∙ sym (append_assoc (bytes_given call) (given calls) (given more))

pub reads_join : (calls more : List Call) → reads (calls ++ more) ≡ reads calls + reads more
reads_join [] more = omega arith
reads_join (call ∷ calls) more = let rest : reads (calls ++ more) ≡ reads calls + reads more = reads_join calls more in omega arith

pub failures_join : (calls more : List Call) → failures (calls ++ more) ≡ failures calls + failures more
failures_join [] more = omega arith
failures_join (call ∷ calls) more =
    let rest : failures (calls ++ more) ≡ failures calls + failures more = failures_join calls more in omega arith

or_assoc : (a b c : Bool) → (a || (b || c)) ≡ ((a || b) || c)
or_assoc true b c = refl
or_assoc false b c = refl

pub end_join : (calls more : List Call) → meets_end (calls ++ more) ≡ (meets_end calls || meets_end more)
end_join [] more = refl
end_join (call ∷ calls) more = ap (λ met. is_end call || met) (end_join calls more) ∙ or_assoc (is_end call) (meets_end calls) (meets_end more)

pub made_join : {S : Type 0} (makes : Making S) (before between after : S) (calls more : List Call)
    → AreMade makes before calls between → AreMade makes between more after → AreMade makes before (calls ++ more) after
made_join {S} makes before between after [] more are_made later = let P : S → Type 0 = λ s. AreMade makes s more after in subst P are_made later
made_join makes before between after (call ∷ calls) more (middle, made, others) later =
    (middle, made, made_join makes middle between after calls more others later)

concat_join : (pieces more : List (List ℕ)) → concat (pieces ++ more) ≡ concat pieces ++ concat more
concat_join [] more = refl
concat_join (piece ∷ pieces) more =
    ap (λ bytes. piece ++ bytes) (concat_join pieces more) ∙ sym (append_assoc piece (concat pieces) (concat more))

are_writes_join : (text behind : List ℕ) (result : Result (Unit {0}) WriteFault) (pieces others : List (List ℕ)) (calls more : List Call)
    → AreWrites text (Ok tt) pieces calls → AreWrites behind result others more → AreWrites (text ++ behind) result (pieces ++ others) (calls ++ more)
are_writes_join text behind (Ok done) pieces others calls more (are, is) (are_more, is_more) = (
  ap (λ front. front ++ more) are ∙ ap (λ back. map Took pieces ++ back) are_more ∙ sym (map-append Took pieces others),
  concat_join pieces others ∙ ap (λ front. front ++ concat others) is ∙ ap (λ back. text ++ back) is_more,
)
are_writes_join text behind (Err failed) pieces others calls more (are, is) (rest, are_more, is_more, left) = (
  rest,
  ap (λ front. front ++ more) are
      ∙ ap (λ back. map Took pieces ++ back) are_more
      ∙ sym (append_assoc (map Took pieces) (map Took others) (WriteFailed ∷ []))
      ∙ ap (λ front. front ++ WriteFailed ∷ []) (sym (map-append Took pieces others)),
  ap (λ front. front ++ rest) (concat_join pieces others)
      ∙ append_assoc (concat pieces) (concat others) rest
      ∙ ap (λ front. front ++ (concat others ++ rest)) is
      ∙ ap (λ back. text ++ back) is_more,
  left,
)

-- A text is written after another.
pub writes_join : {S : Type 0} (makes : Making S) (text behind : List ℕ) (before between after : S) (result : Result (Unit {0}) WriteFault)
    → WritesAll makes text before (Ok tt) between → WritesAll makes behind between result after → WritesAll makes (text ++ behind) before result after
writes_join makes text behind before between after result (pieces, calls, made, are) (others, more, made_more, are_more) = (
  pieces ++ others,
  calls ++ more,
  made_join makes before between after calls more made made_more,
  are_writes_join text behind result pieces others calls more are are_more,
)
