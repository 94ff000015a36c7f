-- The content as it is written, step by step.
use Rattle.std.proofs.Common.{◌≡◌, ℕ, List, [], ◌∷◌, ◌++◌, length, sym, ap, ◌∙◌, append_assoc}
use Rattle.std.specs.List.{concat, flat_map}
use Rattle.std.proofs.lemmas.List.{append-nil}
use Rattle.sv_session.specs.Store.{SessionsState, Store}
use Rattle.sv_saved_sessions.specs.declared.saved_head.SavedHead.{SavedHead}
use Rattle.sv_saved_sessions.specs.Content.{constraint_bytes, content, magic_line, session_bytes, user_bytes}
use Rattle.sv_saved_sessions.specs.Encoding.{list_bytes, number_bytes, text_bytes}
use Rattle.sv_saved_sessions.specs.Saving.{head_bytes, suspended}

abbrev pub begin_bytes : ℕ → List ℕ → List ℕ
begin_bytes moment path = magic_line ++ (text_bytes path ++ number_bytes moment)

abbrev pub numbers_bytes : Store → List ℕ
numbers_bytes store = number_bytes store.serial ++ number_bytes (length store.sessions)

grouped : (a b rest : List ℕ) (c : List ℕ) → a ++ (b ++ (c ++ rest)) ≡ (a ++ (b ++ c)) ++ rest
grouped a b rest c = ap (λ (back : List ℕ). a ++ back) (sym (append_assoc b c rest)) ∙ sym (append_assoc a (b ++ c) rest)

all_grouped : (magic path moment users declared constraints greatest serial count items : List ℕ)
    → concat (magic ∷ path ∷ moment ∷ users ∷ declared ∷ constraints ∷ greatest ∷ serial ∷ (count ++ items) ∷ [])
    ≡ ((magic ++ (path ++ moment)) ++ (users ++ (declared ++ (constraints ++ (greatest ++ (serial ++ count)))))) ++ items
all_grouped magic path moment users declared constraints greatest serial count items =
    let begin = magic ++ (path ++ moment) in
    grouped magic path (users ++ (declared ++ (constraints ++ (greatest ++ (serial ++ ((count ++ items) ++ [])))))) moment
    ∙ ap (λ (last : List ℕ). begin ++ (users ++ (declared ++ (constraints ++ (greatest ++ (serial ++ last)))))) (append-nil (count ++ items))
    ∙ ap (λ (last : List ℕ). begin ++ (users ++ (declared ++ (constraints ++ last)))) (grouped greatest serial items count)
    ∙ ap (λ (last : List ℕ). begin ++ (users ++ last)) (grouped declared constraints items (greatest ++ (serial ++ count)))
    ∙ grouped begin users items (declared ++ (constraints ++ (greatest ++ (serial ++ count))))

pub content_is_head : (moment : ℕ) (head : SavedHead) (sessions : SessionsState)
    → content moment (suspended head sessions) ≡ head_bytes moment head sessions.store ++ flat_map session_bytes sessions.store.sessions
unfolding content
content_is_head moment head sessions =
    all_grouped magic_line (text_bytes head.path.now) (number_bytes moment) (list_bytes user_bytes head.users.now) (list_bytes constraint_bytes head.declared.now)
    (list_bytes constraint_bytes head.constraints.now) (number_bytes head.greatest) (number_bytes sessions.store.serial)
    (number_bytes (length sessions.store.sessions)) (flat_map session_bytes sessions.store.sessions)
