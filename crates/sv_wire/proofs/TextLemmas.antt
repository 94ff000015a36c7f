-- A machine at the end of a size line or of a trailer section.
use Rattle.std.proofs.Common.{◌≡◌, ℕ, ◌+◌, ◌-◌, ◌≤◌, List, [], ◌∷◌, ◌++◌, length, take, drop, Option, refl, sym, ap, ◌∙◌, subst, arith}
use Rattle.std.proofs.lemmas.List.{append_assoc, append-nil, length-drop, drop-drop}
use Rattle.sv_wire.specs.declared.body_fault.BodyFault.TheVariants.{BadChunk, TrailerTooLarge}
use Rattle.sv_text.specs.declared.front.Cut.{Cut}
use Rattle.sv_text.specs.declared.front.Cut.TheVariants.{Whole, Endless, Unended}
use Rattle.sv_wire.specs.declared.text_kind.TextKind.TheVariants as text
use Rattle.sv_wire.specs.declared.limits.TheConstants.{MAX_BODY_LEN, MAX_SIZE_LINE_LEN, MAX_TRAILER_LEN}
use Rattle.sv_wire.specs.declared.machine.Machine.{Machine}
use Rattle.sv_wire.specs.declared.machine.Stage.{Stage}
use Rattle.sv_wire.specs.declared.machine.Stage.TheVariants.{SizeLine, Trailer}
use Rattle.sv_wire.specs.declared.machine.Step.{Step}
use Rattle.sv_wire.specs.declared.machine.Step.TheVariants.{Moved, Stopped}
use Rattle.sv_wire.specs.declared.machine.Stop.{Stop}
use Rattle.sv_wire.specs.declared.machine.Stop.TheVariants.{Awaits, Complete, Broken}
use Rattle.sv_wire.specs.Chunks.{Body, unfinished, complete, broken, Part, chunk, last, cut_text, ReadsSize, after_line, trailer_at, read_trailer, BeginsAt, Begins}
use Rattle.sv_wire.specs.Machine.{ReadsRest, GoesOn, Resumes, FitsStage, CutsOpen, BeginsChunk, StopsFrom, StepsFrom}

-- The first part of a text, and the reading that continues it, make up the reading of the text.
pub rest_from : (bytes stream : List ℕ) (part : Part) (body : Body) → Begins bytes stream part → GoesOn bytes part body
    → ReadsRest bytes stream body
rest_from bytes stream (chunk more rest) body begins on = (more ∷ on.0, (rest, begins, on.1))
rest_from bytes stream (last end) body begins on = ([], subst (λ x. Begins bytes stream (last x)) (sym on) begins)

-- A stop in a text that begins at this offset.
abbrev pub moved_by : ℕ → Stop → Stop
moved_by at Awaits = Awaits
moved_by at (Complete count) = Complete (at + count)
moved_by at (Broken fault count) = Broken fault (at + count)

-- A machine that awaits more at a stage.
pub awaits_at : (from stage : Stage) (before had held bytes stream : List ℕ) (new : Machine) → new.stage ≡ stage → new.held.items ≡ held
    → new.body.items ≡ bytes
    → FitsStage stage held bytes × Resumes stage bytes (held ++ []) unfinished
    × ((more : List ℕ) (body : Body) → Resumes stage bytes (held ++ more) body → Resumes from had (before ++ (stream ++ more)) body)
    → StopsFrom from before had stream Awaits new
awaits_at from stage before had held bytes stream new is_stage is_held is_bytes on = rw (is_stage, is_held, is_bytes) on

begins_at : (c : Cut) (bytes stream : List ℕ) (part : Part) → cut_text text.SizeLine stream ≡ c → BeginsAt c bytes stream part
    → Begins bytes stream part
begins_at c bytes stream part is begins = subst (λ k. BeginsAt k bytes stream part) (sym is) begins

module _ (bytes held stream after : List ℕ) where
  pub line_whole : (len : ℕ) (size : Option ℕ) → CutsOpen text.SizeLine held stream after (Whole len) → ReadsSize (take len after) size
      → (more : List ℕ) → Begins bytes (held ++ (stream ++ more)) (after_line bytes size (drop (len - length held) stream ++ more))
  line_whole len size cuts reads more =
      let at = cuts.3 more in
      begins_at (Whole len) bytes (held ++ (stream ++ more)) (after_line bytes size (drop (len - length held) stream ++ more)) at.0
      (size, subst (λ line. ReadsSize line size) (sym at.1) reads, ap (after_line bytes size) (sym at.2))

  pub line_steps : (len : ℕ) (size : Option ℕ) (step : Step) (new : Machine) → CutsOpen text.SizeLine held stream after (Whole len)
      → ReadsSize (take len after) size → BeginsChunk bytes size (len - length held) step new
      → StepsFrom SizeLine held bytes stream step new
  line_steps len size (Moved count) new cuts reads begins =
      let is : len - length held ≡ count = sym begins.0 in (
        omega (arith, is, cuts.0),
        omega (arith, is, cuts.2),
        begins.1,
        λ more body on. rest_from bytes (held ++ (stream ++ more)) (after_line bytes size (drop (len - length held) stream ++ more)) body
            (line_whole len size cuts reads more)
            (begins.2 (drop (len - length held) stream ++ more) body
            (subst (λ n. Resumes new.stage new.body.items (new.held.items ++ (drop n stream ++ more)) body) (sym is) on)),
      )
  line_steps len size (Stopped (Broken fault count)) new cuts reads begins =
      let is : len - length held ≡ count = sym begins.0 in (
        omega (arith, is, cuts.2),
        subst (λ n. ReadsRest bytes (held ++ stream) (broken fault (drop n stream))) is
            (subst (λ t. ReadsRest bytes (held ++ t) (broken fault (drop (len - length held) stream))) (append-nil stream)
            (rest_from bytes (held ++ (stream ++ [])) (after_line bytes size (drop (len - length held) stream ++ []))
            (broken fault (drop (len - length held) stream)) (line_whole len size cuts reads [])
            (subst (λ part. GoesOn bytes part (broken fault (drop (len - length held) stream)))
            (sym (begins.1 (drop (len - length held) stream ++ [])))
            (ap (broken fault) (sym (append-nil (drop (len - length held) stream))))))),
      )
  line_steps len size (Stopped Awaits) new cuts reads begins = absurd begins
  line_steps len size (Stopped (Complete count)) new cuts reads begins = absurd begins

  pub line_endless : CutsOpen text.SizeLine held stream after Endless
      → (MAX_SIZE_LINE_LEN - length held ≤ length stream)
      × Resumes SizeLine bytes (held ++ stream) (broken BadChunk (drop (MAX_SIZE_LINE_LEN - length held) stream))
  line_endless cuts =
      let at = cuts.2 [] in
      let fault : Body = broken BadChunk (drop (MAX_SIZE_LINE_LEN - length held) stream) in (
        cuts.1,
        subst (λ t. ReadsRest bytes (held ++ t) fault) (append-nil stream) (
          [],
          begins_at Endless bytes (held ++ (stream ++ [])) (last fault) at.0
              (ap (λ t. last (broken BadChunk t)) (sym (append-nil (drop (MAX_SIZE_LINE_LEN - length held) stream)) ∙ sym at.1)),
        ),
      )

  all : after ≡ held ++ stream → (more : List ℕ) → after ++ more ≡ held ++ (stream ++ more)
  all is more = ap (λ t. t ++ more) is ∙ append_assoc held stream more

  pub line_awaits : CutsOpen text.SizeLine held stream after Unended → length bytes ≤ MAX_BODY_LEN
      → FitsStage SizeLine after bytes × Resumes SizeLine bytes (after ++ []) unfinished
      × ((more : List ℕ) (body : Body) → Resumes SizeLine bytes (after ++ more) body → Resumes SizeLine bytes (held ++ (stream ++ more)) body)
  line_awaits cuts fits = (
    (cuts.1, fits),
    ([], begins_at Unended bytes (after ++ []) (last unfinished) (ap (cut_text text.SizeLine) (append-nil after) ∙ cuts.1) refl),
    λ more body reads. subst (λ t. ReadsRest bytes t body) (all cuts.0 more) reads,
  )

  pub trailer_whole : (len : ℕ) → CutsOpen text.Trailer held stream after (Whole len)
      → (len - length held ≤ length stream) × Resumes Trailer bytes (held ++ stream) (complete bytes (drop (len - length held) stream))
  trailer_whole len cuts =
      let at = cuts.3 [] in (
        cuts.2,
        subst (λ t. complete bytes (drop (len - length held) stream) ≡ read_trailer bytes (held ++ t)) (append-nil stream)
            (ap (complete bytes) (sym (append-nil (drop (len - length held) stream)) ∙ sym at.2)
            ∙ ap (λ c. trailer_at c bytes (held ++ (stream ++ []))) (sym at.0)),
      )

  pub trailer_endless : CutsOpen text.Trailer held stream after Endless
      → (MAX_TRAILER_LEN - length held ≤ length stream)
      × Resumes Trailer bytes (held ++ stream) (broken TrailerTooLarge (drop (MAX_TRAILER_LEN - length held) stream))
  trailer_endless cuts =
      let at = cuts.2 [] in (
        cuts.1,
        subst (λ t. broken TrailerTooLarge (drop (MAX_TRAILER_LEN - length held) stream) ≡ read_trailer bytes (held ++ t)) (append-nil stream)
            (ap (broken TrailerTooLarge) (sym (append-nil (drop (MAX_TRAILER_LEN - length held) stream)) ∙ sym at.1)
            ∙ ap (λ c. trailer_at c bytes (held ++ (stream ++ []))) (sym at.0)),
      )

  pub trailer_awaits : CutsOpen text.Trailer held stream after Unended
      → FitsStage Trailer after bytes × Resumes Trailer bytes (after ++ []) unfinished
      × ((more : List ℕ) (body : Body) → Resumes Trailer bytes (after ++ more) body → Resumes Trailer bytes (held ++ (stream ++ more)) body)
  trailer_awaits cuts = (
    cuts.1,
    ap (λ c. trailer_at c bytes (after ++ [])) (sym (ap (cut_text text.Trailer) (append-nil after) ∙ cuts.1)),
    λ more body reads. subst (λ t. body ≡ read_trailer bytes t) (all cuts.0 more) reads,
  )

-- ---- a run

-- One step, and the run after it.
module _ (from stage : Stage) (had before held bytes stream : List ℕ) (at : ℕ)
    (leads : (more : List ℕ) (body : Body) → Resumes stage bytes (held ++ (drop at stream ++ more)) body → Resumes from had (before ++ (stream ++ more)) body) where
  here : (body : Body) → Resumes stage bytes (held ++ drop at stream) body → Resumes from had (before ++ stream) body
  here body reads =
      subst (λ t. Resumes from had (before ++ t) body) (append-nil stream)
      (leads [] body (subst (λ t. Resumes stage bytes (held ++ t) body) (sym (append-nil (drop at stream))) reads))

  pub run_stops : (inside : at ≤ length stream) (stop : Stop) (new : Machine) → StopsFrom stage held bytes (drop at stream) stop new
      → StopsFrom from before had stream (moved_by at stop) new
  run_stops inside Awaits new stops = (stops.0, stops.1, λ more body reads. leads more body (stops.2 more body reads))
  run_stops inside (Complete count) new stops = (
    omega (arith, inside, stops.0, length-drop at stream),
    subst (λ t. Resumes from had (before ++ stream) (complete new.body.items t)) (drop-drop count at stream)
        (here (complete new.body.items (drop count (drop at stream))) stops.1),
  )
  run_stops inside (Broken fault count) new stops = (
    omega (arith, inside, stops.0, length-drop at stream),
    subst (λ t. Resumes from had (before ++ stream) (broken fault t)) (drop-drop count at stream)
        (here (broken fault (drop count (drop at stream))) stops.1),
  )
