-- The progress of the reads for a line.
use Rattle.std.proofs.Common.{◌≡◌, ℕ, ◌+◌, ◌-◌, ◌*◌, ◌<◌, ◌≤◌, Bool, true, false, ◌||◌, eqb, List, [], ◌∷◌, ◌++◌, Some, None, Ok, Err, Option, refl, subst, sym, ap, ◌∙◌, inl, inr, append_assoc, append-nil, length, length-append, arith}
use Rattle.std.proofs.lemmas.Bool.{ne_eqb, or_parts}
use Rattle.sv_streams.specs.Calls.{AreMade, Call, Gave, Making, ReadFailed, bytes_given, bytes_taken, failures, given, is_end, is_failure, is_read, meets_end, reads, taken}
use Rattle.sv_streams.specs.Lines.{AreReads, LinesState, NextLine, has_line_feed, max_reads, piece_bytes, unread}
use Rattle.sv_streams.specs.LineSteps.{LastLine, ReadsOnce, TakesLine}
use Rattle.sv_streams.specs.declared.lines_fault.LinesFault.{LinesFault}
use Rattle.sv_streams.specs.declared.lines_fault.LinesFault.TheVariants as fault
use Rattle.sv_streams.proofs.CallLemmas.{one_more}

taken_more : (calls : List Call) (call : Call) → taken (calls ++ call ∷ []) ≡ taken calls ++ bytes_taken call
taken_more [] call = append-nil (bytes_taken call)
taken_more (first ∷ calls) call =
    ap (λ bytes. bytes_taken first ++ bytes) (taken_more calls call) ∙ sym (append_assoc (bytes_taken first) (taken calls) (bytes_taken call))

given_more : (calls : List Call) (call : Call) → given (calls ++ call ∷ []) ≡ given calls ++ bytes_given call
given_more [] call = append-nil (bytes_given call)
given_more (first ∷ calls) call =
    ap (λ bytes. bytes_given first ++ bytes) (given_more calls call) ∙ sym (append_assoc (bytes_given first) (given calls) (bytes_given call))

reads_more : (calls : List Call) (call : Call) → reads (calls ++ call ∷ []) ≡ reads calls + is_read call
reads_more [] call = omega arith
reads_more (first ∷ calls) call = let rest : reads (calls ++ call ∷ []) ≡ reads calls + is_read call = reads_more calls call in omega arith

failures_more : (calls : List Call) (call : Call) → failures (calls ++ call ∷ []) ≡ failures calls + is_failure call
failures_more [] call = omega arith
failures_more (first ∷ calls) call = let rest : failures (calls ++ call ∷ []) ≡ failures calls + is_failure call = failures_more calls call in omega arith

or_false : (b : Bool) → (b || false) ≡ b
or_false true = refl
or_false false = refl

end_more : (calls : List Call) (call : Call) → meets_end calls ≡ false → meets_end (calls ++ call ∷ []) ≡ is_end call
end_more [] call none = or_false (is_end call)
end_more (first ∷ calls) call none =
    let parts = or_parts (is_end first) (meets_end calls) none in
    ap (λ b. b || meets_end (calls ++ call ∷ [])) parts.0 ∙ end_more calls call parts.1

-- A call that is a read.
pub record IsRead (call : Call) (failed : ℕ) : Type 0 where
  pub takes : bytes_taken call ≡ []
  pub counts : is_read call ≡ 1
  pub fails : is_failure call ≡ failed
  pub fits : length (bytes_given call) ≤ piece_bytes

once_more : (start state next : LinesState) (calls : List Call) (call : Call) (failed : ℕ)
    → AreReads start calls 0 state → state.ended ≡ false → IsRead call failed → next.reads ≡ state.reads + 1 → state.reads < max_reads → next.ended ≡ is_end call
    → AreReads start (calls ++ call ∷ []) failed next
once_more start state next calls call failed are open_yet read counted below ended =
    let parts = or_parts start.ended (meets_end calls) (sym are.ended ∙ open_yet) in
    let fails_more : failures (calls ++ call ∷ []) ≡ failures calls + is_failure call = failures_more calls call in
    let reads_now : reads (calls ++ call ∷ []) ≡ reads calls + is_read call = reads_more calls call in
    let none_failed : failures calls ≡ 0 = are.failed in
    let counted_yet : state.reads ≡ start.reads + reads calls = are.counted in
    let fails : is_failure call ≡ failed = read.fails in
    let counts : is_read call ≡ 1 = read.counts in
    let fits : length (bytes_given call) ≤ 8192 = read.fits in
    let measured_yet : length (given calls) ≤ 8192 * reads calls = are.measured in
    let given_now : length (given (calls ++ call ∷ [])) ≡ length (given calls) + length (bytes_given call) =
    ap length (given_more calls call) ∙ length-append (given calls) (bytes_given call) in
    record {
      reads_alone = taken_more calls call ∙ ap (λ bytes. bytes ++ bytes_taken call) are.reads_alone ∙ read.takes;
      failed = omega arith;
      counted = omega arith;
      within = λ within. omega arith;
      ended = ended ∙ sym (end_more calls call parts.1) ∙ ap (λ b. b || meets_end (calls ++ call ∷ [])) (sym parts.0);
      none_behind = λ was. cc (was, parts.0);
      measured = omega arith;
    }

-- Nothing was read.
as_much : (start state after : LinesState) (calls : List Call) (failed : ℕ) → AreReads start calls failed state → after.reads ≡ state.reads → after.ended ≡ state.ended → AreReads start calls failed after
as_much start state after calls failed are counted ended =
    record {
      reads_alone = are.reads_alone;
      failed = are.failed;
      counted = counted ∙ are.counted;
      within = λ within. let yet : state.reads ≤ max_reads = are.within within in omega arith;
      ended = ended ∙ are.ended;
      none_behind = are.none_behind;
      measured = are.measured;
    }

-- The reads made so far for a line.
pub record Progress {S : Type 0} (makes : Making S) (first : S) (start : LinesState) (source : S) (state : LinesState) : Type 0 where
  pub calls : List Call
  pub made : AreMade makes first calls source
  pub are : AreReads start calls 0 state
  pub text : unread start ++ given calls ≡ unread state

pub no_progress : {S : Type 0} (makes : Making S) (first : S) (start : LinesState) → Progress makes first start first start
no_progress makes first start = record {
  calls = [];
  made = refl;
  are = record {
    reads_alone = refl;
    failed = refl;
    counted = omega arith;
    within = λ within. within;
    ended = sym (or_false start.ended);
    none_behind = λ ended. refl;
    measured = omega arith;
  };
  text = append-nil (unread start);
}

line_alone : (state : LinesState) → state.ahead ≡ [] → unread state ≡ state.line
line_alone state empty = ap (λ ahead. state.line ++ ahead) empty ∙ append-nil state.line

empty_end : (bytes : List ℕ) → is_end (Gave bytes) ≡ eqb (length bytes) 0
empty_end [] = refl
empty_end (b ∷ bytes) = sym (ne_eqb (length (b ∷ bytes)) 0 (λ none. omega arith))

-- One more piece was read.
pub piece_read : {S : Type 0} (makes : Making S) (first source after : S) (start state moved next : LinesState)
    → Progress makes first start source state → TakesLine {E = Unit {0}} state (Ok None) moved → moved.ended ≡ false → ReadsOnce makes source moved (Ok tt) after next
    → Progress makes first start after next
piece_read makes first source after start state moved next p moves open_yet read =
    let call = Gave next.ahead in
    record {
      calls = p.calls ++ call ∷ [];
      made = one_more makes first source after p.calls call p.made read.0;
      are = once_more start moved next p.calls call 0 (as_much start state moved p.calls 0 p.are moves.3.0 moves.3.1) open_yet
          (record { takes = refl; counts = refl; fails = refl; fits = read.3 }) (ap (λ (s : LinesState). s.reads) read.2) read.1 (ap (λ (s : LinesState). s.ended) read.2 ∙ sym (empty_end next.ahead));
      text = ap (λ bytes. unread start ++ bytes) (given_more p.calls call)
          ∙ sym (append_assoc (unread start) (given p.calls) next.ahead)
          ∙ ap (λ text. text ++ next.ahead) (p.text ∙ sym moves.0 ∙ line_alone moved moves.1)
          ∙ ap (λ line. line ++ next.ahead) (sym (ap (λ (s : LinesState). s.line) read.2));
    }

-- One read fewer is left.
pub falls : {S : Type 0} (makes : Making S) (source after : S) (state moved next : LinesState)
    → TakesLine {E = Unit {0}} state (Ok None) moved → ReadsOnce makes source moved (Ok tt) after next → max_reads - next.reads < max_reads - state.reads
falls makes source after state moved next moves read =
    let counted : next.reads ≡ moved.reads + 1 = ap (λ (s : LinesState). s.reads) read.2 in
    let same : moved.reads ≡ state.reads = moves.3.0 in
    let below : moved.reads < max_reads = read.1 in
    omega arith

-- A line ended in the bytes read.
pub line_taken : {S : Type 0} (makes : Making S) (first source : S) (start state after : LinesState) (line : List ℕ)
    → Progress makes first start source state → TakesLine {E = Unit {0}} state (Ok (Some line)) after → NextLine makes first start (Ok (Some line)) source after
line_taken makes first source start state after line p takes =
    (p.calls, p.made, as_much start state after p.calls 0 p.are takes.1.0 takes.1.1, inl (takes.0.0, p.text ∙ takes.0.1))

-- Memory ran out.
pub none_taken : {S : Type 0} (makes : Making S) (first source : S) (start state after : LinesState)
    → Progress makes first start source state → after ≡ state → NextLine makes first start (Err fault.NoMemory) source after
none_taken makes first source start state after p same =
    (p.calls, p.made, as_much start state after p.calls 0 p.are (ap (λ (s : LinesState). s.reads) same) (ap (λ (s : LinesState). s.ended) same), ap unread same ∙ sym p.text)

-- The end was met.
pub end_met : {S : Type 0} (makes : Making S) (first source : S) (start state moved after : LinesState) (last : Option (List ℕ))
    → Progress makes first start source state → TakesLine {E = Unit {0}} state (Ok None) moved → moved.ended ≡ true → LastLine moved last after
    → NextLine makes first start (Ok last) source after
end_met makes first source start state moved after None p moves ended (empty, same) = (
  p.calls,
  p.made,
  as_much start state after p.calls 0 p.are (ap (λ (s : LinesState). s.reads) same ∙ moves.3.0) (ap (λ (s : LinesState). s.ended) same ∙ moves.3.1),
  (p.text ∙ sym moves.0 ∙ line_alone moved moves.1 ∙ empty, ap unread same ∙ line_alone moved moves.1 ∙ empty, ap (λ (s : LinesState). s.ended) same ∙ ended),
)
end_met makes first source start state moved after (Some line) p moves ended (is, some, left) = (
  p.calls,
  p.made,
  as_much start state after p.calls 0 p.are (ap (λ (s : LinesState). s.reads) left ∙ moves.3.0) (ap (λ (s : LinesState). s.ended) left ∙ moves.3.1),
  inr (
    (ap has_line_feed (is ∙ sym (line_alone moved moves.1) ∙ moves.0) ∙ moves.2, p.text ∙ sym moves.0 ∙ line_alone moved moves.1 ∙ sym is, some),
    ap unread left ∙ moves.1,
    ap (λ (s : LinesState). s.ended) left ∙ ended,
  ),
)

-- No more reads were made, or the last one failed.
pub none_read : {S : Type 0} (makes : Making S) (first source source_after : S) (start state moved after : LinesState) (refused : LinesFault)
    → Progress makes first start source state → TakesLine {E = Unit {0}} state (Ok None) moved → moved.ended ≡ false → ReadsOnce makes source moved (Err refused) source_after after
    → NextLine makes first start (Err refused) source_after after
none_read makes first source source_after start state moved after fault.ReadFailed p moves open_yet (made, below, is) = (
  p.calls ++ ReadFailed ∷ [],
  one_more makes first source source_after p.calls ReadFailed p.made made,
  once_more start moved after p.calls ReadFailed 1 (as_much start state moved p.calls 0 p.are moves.3.0 moves.3.1) open_yet
      (record { takes = refl; counts = refl; fails = refl; fits = omega arith }) (ap (λ (s : LinesState). s.reads) is) below (ap (λ (s : LinesState). s.ended) is ∙ open_yet),
  (ap unread is ∙ moves.0 ∙ sym still, ap has_line_feed still ∙ moves.2),
)
  where
    still : unread start ++ given (p.calls ++ ReadFailed ∷ []) ≡ unread state
    still = ap (λ bytes. unread start ++ bytes) (given_more p.calls ReadFailed ∙ append-nil (given p.calls)) ∙ p.text
none_read {S} makes first source source_after start state moved after fault.TooManyReads p moves open_yet (same, is, many) =
    let P : S → Type 0 = λ s. AreMade makes first p.calls s in (
      p.calls,
      subst P (sym same) p.made,
      as_much start state after p.calls 0 p.are (ap (λ (s : LinesState). s.reads) is ∙ moves.3.0) (ap (λ (s : LinesState). s.ended) is ∙ moves.3.1),
      (ap unread is ∙ moves.0 ∙ sym p.text, ap has_line_feed p.text ∙ moves.2, subst (λ (n : ℕ). max_reads ≤ n) (sym (ap (λ (s : LinesState). s.reads) is)) many),
    )
none_read {S} makes first source source_after start state moved after fault.NoMemory p moves open_yet (same, is) =
    let P : S → Type 0 = λ s. AreMade makes first p.calls s in (
      p.calls,
      subst P (sym same) p.made,
      as_much start state after p.calls 0 p.are (ap (λ (s : LinesState). s.reads) is ∙ moves.3.0) (ap (λ (s : LinesState). s.ended) is ∙ moves.3.1),
      ap unread is ∙ moves.0 ∙ sym p.text,
    )
