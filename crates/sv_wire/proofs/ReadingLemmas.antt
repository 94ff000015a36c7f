-- A stream that is read up to a place.
use Rattle.std.proofs.Common.{◌≡◌, ℕ, ◌+◌, ◌<◌, ◌≤◌, Bool, true, false, ◌||◌, List, [], ◌∷◌, ◌++◌, length, take, drop, Option, None, Some, refl, sym, ap, ◌∙◌, subst, arith, MatchBool}
use Rattle.std.proofs.lemmas.Bool.{or_from}
use Rattle.std.proofs.lemmas.List.{append_assoc, append-nil, take-append-le}
use Rattle.std.proofs.lemmas.List.Folds.{list_any-append}
use Rattle.sv_text.specs.declared.front.Cut.TheVariants.{Unended}
use Rattle.sv_wire.proofs.BoolLemmas.{MatchBool-from_true, MatchBool-from_false}
use Rattle.sv_text.proofs.FrontLemmas.{cut_unended-fronts}
use Rattle.sv_wire.specs.declared.inbox.State.{State}
use Rattle.sv_wire.specs.declared.inbox.State.TheVariants as state
use Rattle.sv_wire.specs.declared.item.Item.{Item}
use Rattle.sv_wire.specs.declared.limits.TheConstants.{MAX_HEAD_LEN}
use Rattle.sv_wire.specs.declared.owed_head.OwedHead.{OwedHead}
use Rattle.sv_wire.specs.declared.pending_message.Pending.{Pending}
use Rattle.sv_wire.specs.declared.read_items.Next.TheVariants.{Found, AwaitsHead, AwaitsBody}
use Rattle.sv_wire.specs.Head.{ends_head}
use Rattle.sv_wire.specs.Items.{is_last, are_ended}
use Rattle.sv_wire.specs.Next.{StartsNext, ComesNext}
use Rattle.sv_wire.specs.Pending.{owed_by, rest_of, AreSound}
use Rattle.sv_wire.specs.Reads.{gives, awaits, cut_head, Starts, Reads}
use Rattle.sv_wire.specs.State.{ReadsTo, ReadsAfter}

-- The items were read from the bytes before the place, and reading from there completes the reading.
pub record HasRead (stream : List ℕ) (items : List Item) (body : Option Pending) (at : ℕ) : Type 0 where
  pub inside : at ≤ length stream
  pub sound : AreSound body
  pub goes_on : are_ended items ≡ false
  pub joins : (more : List Item) (left : Option OwedHead) (rest : List ℕ) → Reads (owed_by body) (rest_of body ++ drop at stream) more left rest
      → Reads None stream (items ++ more) left rest

module _ (stream : List ℕ) (items : List Item) (body : Option Pending) (at : ℕ) (so_far : HasRead stream items body at) where
  pub read_to_head : (start : ℕ) → ComesNext body stream at (AwaitsHead start)
      → Reads None stream items None (drop start stream)
  read_to_head start next =
      subst (λ xs. Reads None stream xs None (drop start stream)) (append-nil items)
      (so_far.joins [] None (drop start stream) (
        sym next.2,
        next.3,
        subst (λ t. Starts (owed_by body) t awaits) (sym next.3) next.4,
      ))

  pub read_to_body : (pending : Pending) → ComesNext body stream at (AwaitsBody pending)
      → Reads None stream items (owed_by (Some pending)) (rest_of (Some pending))
  read_to_body pending next =
      subst (λ xs. Reads None stream xs (owed_by (Some pending)) (rest_of (Some pending))) (append-nil items)
      (so_far.joins [] (owed_by (Some pending)) (rest_of (Some pending)) (
        next.1,
        next.2,
        subst (λ t. Starts (owed_by body) t awaits) (sym next.2) next.3,
      ))

  module _ (item : Item) (behind : Option Pending) (end : ℕ) (next : ComesNext body stream at (Found item behind end)) where
    pub read_more : is_last item ≡ false → HasRead stream (items ++ item ∷ []) behind end
    read_more goes_on = record {
      inside = next.1;
      sound = next.2;
      goes_on = list_any-append is_last items (item ∷ []) ∙ or_from (are_ended items) _ so_far.goes_on (or_from (is_last item) false goes_on refl);
      joins = λ more left rest reads.
          subst (λ xs. Reads None stream xs left rest) (sym (append_assoc items (item ∷ []) more))
          (so_far.joins (item ∷ more) left rest (
            owed_by behind,
            rest_of behind ++ drop end stream,
            next.4,
            MatchBool-from_false (is_last item) _ _ goes_on reads,
          ));
    }

-- No prefix of the bytes of an open head ends a head, whatever bytes follow.
pub awaits_end : (rest piece : List ℕ) → cut_head rest ≡ Unended → (k : ℕ) → k < length rest + 1 → ends_head (take k (rest ++ piece)) ≡ false
awaits_end rest piece unended k below =
    ap ends_head (take-append-le k rest piece (omega arith)) ∙ cut_unended-fronts ends_head MAX_HEAD_LEN rest unended k (omega arith)

-- A body that continues with a piece.
module _ (pending : Pending) (piece : List ℕ) where
  pub body_goes_on : (after : Pending) → ComesNext (Some pending) piece 0 (AwaitsBody after)
      → ReadsTo (owed_by (Some pending)) (rest_of (Some pending) ++ piece) [] (state.Body after)
  body_goes_on after next = (
    (next.1, next.2, subst (λ t. Starts (owed_by (Some pending)) t awaits) (sym next.2) next.3),
    refl,
    next.0,
  )

  -- The piece completes an item.
  pub body_ends : (item : Item) (len : ℕ) (items : List Item) (left : State) → ComesNext (Some pending) piece 0 (Found item None (0 + len))
      → ReadsAfter item (drop len piece) items left → ReadsTo (owed_by (Some pending)) (rest_of (Some pending) ++ piece) items left
  body_ends item len items left next (more, is, behind) =
      subst (λ xs. ReadsTo (owed_by (Some pending)) (rest_of (Some pending) ++ piece) xs left) (sym is) (by_last (is_last item) refl behind)
    where
      starts : StartsNext (Some pending) piece (gives item None (drop len piece))
      starts = subst (λ n. StartsNext (Some pending) piece (gives item None (drop n piece))) (omega arith) next.4

      by_last : (t : Bool) → is_last item ≡ t → MatchBool t ((more ≡ []) × (left ≡ state.Spent)) (ReadsTo None (drop len piece) more left)
          → ReadsTo (owed_by (Some pending)) (rest_of (Some pending) ++ piece) (item ∷ more) left
      by_last true last (none, spent) =
          subst (λ s. ReadsTo (owed_by (Some pending)) (rest_of (Some pending) ++ piece) (item ∷ more) s) (sym spent) (
            (None, drop len piece, starts, MatchBool-from_true (is_last item) _ _ last (none, refl, refl)),
            sym (ap (λ t. t || are_ended more) last),
            tt,
          )
      by_last false goes_on (reads, ended, sound) = (
        (None, drop len piece, starts, MatchBool-from_false (is_last item) _ _ goes_on reads),
        ended ∙ sym (ap (λ t. t || are_ended more) goes_on),
        sound,
      )
