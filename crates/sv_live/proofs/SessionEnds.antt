-- Sessions that end in order of their numbers, and runs that have done a prefix of their records.
use Rattle.std.proofs.Common.{◌≡◌, ℕ, ◌<◌, false, ltb, List, [], ◌∷◌, ◌++◌, drop, length, map, Some, None, refl, sym, ◌∙◌, ap, subst, arith}
use Rattle.std.specs.List.{flat_map}
use Rattle.std.specs.Prelude.{slice_get}
use Rattle.std.proofs.lemmas.Bool.Decides.{nat_tests}
use Rattle.std.proofs.lemmas.List.{append-nil, append_assoc}
use Rattle.std.proofs.lemmas.Option.{none-some, same_Some}
use Rattle.sv_component.specs.Runs.{Record, Runs}
use Rattle.sv_component.specs.World.{World}
use Rattle.sv_component.specs.Steps.{ComponentSteps}
use Rattle.sv_component.proofs.Growing.{grows_join, grows_none}
use Rattle.sv_session.specs.declared.event.Event.TheVariants.{AttributeRemoved}
use Rattle.sv_session.specs.declared.slot.Attribute.{Attribute}
use Rattle.sv_session.specs.declared.ended_sessions.EndedSession.{EndedSession}
use Rattle.sv_session.specs.Calls.{ended}
use Rattle.sv_session.specs.Store.{NumbersRise, Session}
use Rattle.sv_live.specs.SessionEnds.{all_told, by_number, end_events, ends_told, put_by_number}

-- ---- Sessions in order of their numbers.
put_first : (low high : ℕ) (session : Session) (sessions : List Session) → low ≡ session.number → NumbersRise low high sessions
    → put_by_number session sessions ≡ session ∷ sessions
put_first low high session [] is rises = refl
put_first low high session (x ∷ xs) is rises =
    let more : ltb x.number session.number ≡ false = grind (arith, nat_tests, is, rises.0) in rw more refl

in_order : (low high : ℕ) (sessions : List Session) → NumbersRise low high sessions → by_number sessions ≡ sessions
in_order low high [] rises = refl
in_order low high (x ∷ xs) rises = ap (put_by_number x) (in_order x.number high xs rises.1) ∙ put_first x.number high x xs refl rises.1

-- The notifications of sessions that have ended, one after another.
abbrev pub told_of : List EndedSession → ℕ → List Record
told_of sessions count = flat_map (λ session. all_told (end_events session) count) sessions

told_ended : (sessions : List Session) (count : ℕ) → told_of (map ended sessions) count ≡ flat_map (λ session. all_told (end_events (ended session)) count) sessions
told_ended [] count = refl
told_ended (x ∷ xs) count = ap (λ rest. all_told (end_events (ended x)) count ++ rest) (told_ended xs count)

pub told_in_order : (low high : ℕ) (sessions : List Session) (count : ℕ) → NumbersRise low high sessions
    → ends_told sessions count ≡ told_of (map ended sessions) count
told_in_order low high sessions count rises =
    ap (flat_map (λ session. all_told (end_events (ended session)) count)) (in_order low high sessions rises) ∙ sym (told_ended sessions count)

-- ---- The notifications of the first session, and of the others.
pub ends_more : (before : List EndedSession) (session : EndedSession) (count : ℕ) → Some session ≡ slice_get before 0
    → told_of before count ≡ all_told (end_events session) count ++ told_of (drop 1 before) count
ends_more [] session count some = absurd (none-some session (sym some))
ends_more (x ∷ xs) session count some = ap (λ e. all_told (end_events e) count ++ told_of xs count) (sym (same_Some session x some))

pub fewer : (all : List EndedSession) (session : EndedSession) → Some session ≡ slice_get all 0 → length (drop 1 all) < length all
fewer [] session some = absurd (none-some session (sym some))
fewer (x ∷ xs) session some = omega arith

pub none_next : (all : List EndedSession) → None ≡ slice_get all 0 → all ≡ []
none_next [] none = refl
none_next (x ∷ xs) none = absurd (none-some x none)

-- The notifications that attributes were removed.
abbrev pub removals : ℕ → ℕ → List Attribute → List Record
removals number count attributes = all_told (map (λ attribute. AttributeRemoved number attribute.name) attributes) count

-- ---- A prefix of the records is done, and these are left.
pub record Doing {S F L : Type 0} (moving : ComponentSteps S F L) (start : World S F L) (all left : List Record) (now : World S F L) : Type 0 where
  pub done : List Record
  pub grows : Runs moving start done now
  pub whole : done ++ left ≡ all

module _ {S F L : Type 0} (moving : ComponentSteps S F L) where
  pub doing_none : (start : World S F L) (all : List Record) → Doing moving start all all start
  doing_none start all = record { done = []; grows = grows_none moving start; whole = refl }

  pub doing_more : (start before after : World S F L) (all left front rest : List Record) → left ≡ front ++ rest
      → Doing moving start all left before → Runs moving before front after → Doing moving start all rest after
  doing_more start before after all left front rest is doing grows = record {
    done = doing.done ++ front;
    grows = grows_join moving start before after doing.done front doing.grows grows;
    whole = append_assoc doing.done front rest ∙ ap (λ xs. doing.done ++ xs) (sym is) ∙ doing.whole;
  }

  pub doing_all : (start now : World S F L) (all left : List Record) → left ≡ [] → Doing moving start all left now → Runs moving start all now
  doing_all start now all left none doing =
      subst (λ records. Runs moving start records now) (sym (append-nil doing.done) ∙ ap (λ xs. doing.done ++ xs) (sym none) ∙ doing.whole) doing.grows
