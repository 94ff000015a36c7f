-- Calls that are made in order, up to the first that is refused.
use Rattle.std.proofs.Common.{◌≡◌, Bool, List, [], ◌∷◌, ◌++◌, Option, Some, None, refl, ap, sym, subst, ◌∙◌, append_assoc}
use Rattle.std.specs.Prelude.{IfErr, IfSome, MatchOption, OnOk, Result, Ok, Err}
use Rattle.std.specs.Result.{IsErrAnd}
use Rattle.sv_exchange.specs.Changing.{Change, Does, after_all, answer, left_by}
use Rattle.sv_exchange.specs.State.{State}
use Rattle.sv_exchange.specs.declared.exchange_fault.ExchangeFault.{ExchangeFault}
use Rattle.sv_exchange.specs.declared.exchange_fault.ExchangeFault.TheVariants as faults
use Rattle.sv_text.specs.Gives.{Gives}
use Rattle.sv_text.specs.Steps.{◌>>=◌, ◌>>◌}
use Rattle.sv_application.specs.HandingOver.{IsCut, Makes, call_fault, first_answer}

-- a call that was refused
abbrev pub refusal : ExchangeFault → Result (Unit {0}) ExchangeFault
refusal fault = Err fault

-- what holds of a fault holds of the result that has it
pub returned : (Holds : Result (Unit {0}) ExchangeFault → Type 0) (result : Result (Unit {0}) ExchangeFault) (fault : ExchangeFault)
    → IsErrAnd result (λ told. told ≡ fault) → Holds (Err fault) → Holds result
returned Holds (Ok done) fault is holds = absurd is
returned Holds (Err told) fault is holds = subst (λ it. Holds (Err it)) (sym is) holds

-- ---- none, and one

pub none_made : (before after : State) → after ≡ before → Makes [] before (Ok tt) after
none_made before after same = record { all = same; refusal = refl; cut = tt }

pub one_made : (change : Change) (done : Bool) (before after : State) → Does change (Ok done) before after → Makes (change ∷ []) before (Ok tt) after
one_made change done before after does = record {
  all = does.1 ∙ ap (λ said. left_by said change before) (sym does.0);
  refusal = ap (λ said. said >>= (λ _. Ok tt)) does.0;
  cut = tt;
}

stays : (change : Change) (fault : ExchangeFault) (before after : State) → Does change (Err fault) before after → after ≡ before
stays change faults.Committed before after does = does.1
stays change faults.TooManySessions before after does = does.1
stays change faults.SerialSpent before after does = does.1
stays change faults.NoSession before after does = does.1
stays change faults.NoMemory before after does = does.1
stays change faults.BadHeader before after does = does.1
stays change faults.TooLarge before after does = does.1

refuses : (change : Change) (fault : ExchangeFault) (before after : State) → Does change (Err fault) before after
    → Gives call_fault (refusal fault) (first_answer (change ∷ []) before)
refuses change faults.Committed before after does = ap (λ said. said >>= (λ _. Ok tt)) does.0
refuses change faults.TooManySessions before after does = ap (λ said. said >>= (λ _. Ok tt)) does.0
refuses change faults.SerialSpent before after does = ap (λ said. said >>= (λ _. Ok tt)) does.0
refuses change faults.NoSession before after does = ap (λ said. said >>= (λ _. Ok tt)) does.0
refuses change faults.NoMemory before after does = tt
refuses change faults.BadHeader before after does = ap (λ said. said >>= (λ _. Ok tt)) does.0
refuses change faults.TooLarge before after does = ap (λ said. said >>= (λ _. Ok tt)) does.0

-- a call that is refused answers with its fault, unless memory ran out
answers : (change : Change) (fault : ExchangeFault) (before after : State) → Does change (Err fault) before after
    → IfSome (call_fault fault) (λ its. answer change after ≡ Err its)
answers change faults.Committed before after does = ap (answer change) does.1 ∙ does.0
answers change faults.TooManySessions before after does = ap (answer change) does.1 ∙ does.0
answers change faults.SerialSpent before after does = ap (answer change) does.1 ∙ does.0
answers change faults.NoSession before after does = ap (answer change) does.1 ∙ does.0
answers change faults.NoMemory before after does = tt
answers change faults.BadHeader before after does = ap (answer change) does.1 ∙ does.0
answers change faults.TooLarge before after does = ap (answer change) does.1 ∙ does.0

pub one_refused : (change : Change) (fault : ExchangeFault) (before after : State) → Does change (Err fault) before after
    → Makes (change ∷ []) before (Err fault) after
one_refused change fault before after does = record {
  all = tt;
  refusal = refuses change fault before after does;
  cut = record {
    made = [];
    next = change;
    others = [];
    are = refl;
    answered = refl;
    left = stays change fault before after does;
    refused = answers change fault before after does;
  };
}

-- ---- some, and then others

after_both : (first second : List Change) (x : State) → after_all (first ++ second) x ≡ after_all second (after_all first x)
after_both [] second x = refl
after_both (change ∷ first) second x = after_both first second (left_by (answer change x) change x)

in_order : {A B C : Type 0} (said : Result A ExchangeFault) (one : Result B ExchangeFault) (other : Result C ExchangeFault)
    → said >>= (λ _. one >>= (λ _. other)) ≡ (said >>= (λ _. one)) >>= (λ _. other)
in_order (Ok value) one other = refl
in_order (Err fault) one other = refl

first_of_both : (first second : List Change) (x : State)
    → first_answer (first ++ second) x ≡ first_answer first x >> first_answer second (after_all first x)
first_of_both [] second x = refl
first_of_both (change ∷ first) second x =
    let y = left_by (answer change x) change x in
    ap (λ rest. answer change x >>= (λ _. rest)) (first_of_both first second y)
    ∙ in_order (answer change x) (first_answer first y) (first_answer second (after_all first y))

-- if none of the first calls is refused, and none of those after them, none of both is
none_refused : (first second : List Change) (before middle : State) → first_answer first before ≡ Ok tt → middle ≡ after_all first before
    → first_answer second middle ≡ Ok tt → first_answer (first ++ second) before ≡ Ok tt
none_refused first second before middle passed reached is =
    first_of_both first second before ∙ ap (λ said. said >> first_answer second (after_all first before)) passed
    ∙ (ap (first_answer second) (sym reached) ∙ is)

cut_later : (first second : List Change) (fault : ExchangeFault) (before middle after : State) → first_answer first before ≡ Ok tt
    → middle ≡ after_all first before → IsCut second fault middle after → IsCut (first ++ second) fault before after
cut_later first second fault before middle after passed reached cut = record {
  made = first ++ cut.made;
  next = cut.next;
  others = cut.others;
  are = ap (λ later. first ++ later) cut.are ∙ sym (append_assoc first cut.made (cut.next ∷ cut.others));
  answered = none_refused first cut.made before middle passed reached cut.answered;
  left = cut.left ∙ ap (after_all cut.made) reached ∙ sym (after_both first cut.made before);
  refused = cut.refused;
}

cut_sooner : (first second : List Change) (fault : ExchangeFault) (before after : State) → IsCut first fault before after
    → IsCut (first ++ second) fault before after
cut_sooner first second fault before after cut = record {
  made = cut.made;
  next = cut.next;
  others = cut.others ++ second;
  are = ap (λ sooner. sooner ++ second) cut.are ∙ append_assoc cut.made (cut.next ∷ cut.others) second;
  answered = cut.answered;
  left = cut.left;
  refused = cut.refused;
}

on_ok : {P Q : Type 0} (done : Result (Unit {0}) ExchangeFault) → (P → Q) → OnOk done P → OnOk done Q
on_ok (Ok value) both is = both is
on_ok (Err fault) both is = tt

if_err : {P Q : ExchangeFault → Type 0} (done : Result (Unit {0}) ExchangeFault) → ((fault : ExchangeFault) → P fault → Q fault)
    → IfErr done P → IfErr done Q
if_err (Ok value) both is = tt
if_err (Err fault) both is = both fault is

pub then_made : (first second : List Change) (before middle after : State) (passed done : Result (Unit {0}) ExchangeFault) (value : Unit {0})
    → passed ≡ Ok value → Makes first before passed middle → Makes second middle done after → Makes (first ++ second) before done after
then_made first second before middle after passed done value is one two =
    let made : Makes first before (Ok value) middle = subst (λ it. Makes first before it middle) is one in
    record {
      all = on_ok done (λ (same : after ≡ after_all second middle).
          same ∙ ap (after_all second) made.all ∙ sym (after_both first second before)) two.all;
      refusal = subst (Gives call_fault done)
          (sym (first_of_both first second before ∙ ap (λ said. said >> first_answer second (after_all first before)) made.refusal))
          (subst (λ it. Gives call_fault done (first_answer second it)) made.all two.refusal);
      cut = if_err done
          (λ fault (cut : IsCut second fault middle after). cut_later first second fault before middle after made.refusal made.all cut) two.cut;
    }

refused_first : (fault : ExchangeFault) (first second : Result (Unit {0}) ExchangeFault)
    → Gives call_fault (refusal fault) first → Gives call_fault (refusal fault) (first >> second)
refused_first fault first second gives = by (call_fault fault) gives
  where
    by : (told : Option ExchangeFault) → MatchOption told (Unit {0}) (λ f. first ≡ Err f) → MatchOption told (Unit {0}) (λ f. (first >> second) ≡ Err f)
    by None given = tt
    by (Some f) given = ap (λ said. said >> second) given

pub then_none : (first second : List Change) (fault : ExchangeFault) (before after : State)
    → Makes first before (Err fault) after → Makes (first ++ second) before (Err fault) after
then_none first second fault before after one = record {
  all = tt;
  refusal = subst (Gives call_fault (refusal fault)) (sym (first_of_both first second before))
      (refused_first fault (first_answer first before) (first_answer second (after_all first before)) one.refusal);
  cut = cut_sooner first second fault before after one.cut;
}
