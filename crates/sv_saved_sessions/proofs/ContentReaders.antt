-- The readers of the parts of the content.
use Rattle.std.proofs.Common.{◌≡◌, ℕ, ◌^◌, ◌<◌, ◌≤◌, Bool, cond, eqb, List, [], ◌++◌, length, nat_le, nat_lt, IsTrue, Option, Some, None, refl, ap, subst, ◌∙◌, arith, inl, inr}
use Rattle.std.specs.Prelude.{IfSome}
use Rattle.std.specs.Str.{bytes_eq, is_utf8}
use Rattle.std.proofs.lemmas.Bool.{eqb-true, leb-true, le-leb, ltb-true, lt-ltb}
use Rattle.std.proofs.lemmas.Slice.Eq.{bytes_eq-Decides}
use Rattle.sv_constraints.specs.declared.constraint.Auth.{Auth}
use Rattle.sv_constraints.specs.declared.constraint.Auth.TheVariants as auth
use Rattle.sv_constraints.specs.declared.constraint.Methods.{Methods}
use Rattle.sv_constraints.specs.declared.constraint.Methods.TheVariants as methods
use Rattle.sv_constraints.specs.declared.constraint.Transport.{Transport}
use Rattle.sv_constraints.specs.declared.constraint.Transport.TheVariants as transport
use Rattle.sv_mapping.specs.Pattern.{is_pattern}
use Rattle.sv_realm.specs.declared.realm.TheConstants.{MAX_USERS}
use Rattle.sv_saved_sessions.specs.Content.{attribute_bytes, auth_bytes, collection_bytes, constraint_bytes, magic_line, methods_bytes, session_bytes, texts_bytes, transport_bytes, user_bytes}
use Rattle.sv_saved_sessions.specs.Encoding.{list_bytes, number_bytes, optional_bytes, text_bytes}
use Rattle.sv_saved_sessions.specs.Reading.{attribute_at, attribute_of, auth_at, byte_at, byte_string_at, bytes_at, caller_at, collection_at, collection_of, constraint_at, constraint_of, form_at, list_at, magic_at, methods_at, number_at, option_at, pattern_at, session_at, session_of, test_at, text_at, texts_at, transport_at, user_at, user_of, users_at}
use Rattle.sv_saved_sessions.specs.Saved.{AreAll, AreMethods, AreTexts, IsAttribute, IsAuth, IsByteString, IsCollection, IsConstraint, IsNumber, IsPatternText, IsSession, IsText, IsUser}
use Rattle.sv_saved_sessions.proofs.ListReaders.{constant_takes, reads_list, reads_option, tagged_takes}
use Rattle.sv_saved_sessions.proofs.Readers.{IsBytes, Reads, Took, bind_some, byte_again, byte_takes, bytes_again, bytes_takes, chosen, reads_as, reads_byte_string, reads_form, reads_nothing, reads_number, reads_pair, reads_test, some_is}

pub reads_text : Reads text_bytes IsText text_at
unfolding text_at
reads_text = reads_test text_bytes IsByteString byte_string_at reads_byte_string is_utf8

pub reads_texts : Reads texts_bytes AreTexts texts_at
unfolding texts_at
reads_texts = reads_list text_bytes IsText text_at reads_text

no_bytes : Unit {0} → List ℕ
no_bytes x = []

no_fact : Unit {0} → Type 0
no_fact x = Unit {0}

-- ---- users

pub reads_user : Reads user_bytes IsUser user_at
unfolding user_at
reads_user =
    reads_as user_bytes _ user_at
    (reads_form _ _ _
    (reads_pair text_bytes IsText text_at reads_text _ _ _
    (reads_pair text_bytes IsByteString byte_string_at reads_byte_string _ _ _
    (reads_pair text_bytes IsByteString byte_string_at reads_byte_string _ _ _
    (reads_pair texts_bytes AreTexts texts_at reads_texts _ _ _ reads_nothing))))
    user_of (λ user. (user.name, (user.salt, (user.digest, (user.roles, tt))))) (λ user. refl) (λ parts. refl))
    IsUser (λ user facts. (facts.0, facts.1.0, facts.1.1.0, facts.1.1.1.0)) (λ user facts. (facts.0, (facts.1, (facts.2, (facts.3, tt)))))

-- The number of users is tested after they were read.
pub reads_users : Reads (list_bytes user_bytes) (λ users. AreAll IsUser users × (length users ≤ MAX_USERS)) users_at
unfolding users_at
reads_users =
    reads_as (list_bytes user_bytes) _ users_at
    (reads_test (list_bytes user_bytes) (AreAll IsUser) (list_at user_at) (reads_list user_bytes IsUser user_at reads_user) (λ users. nat_le (length users) MAX_USERS))
    (λ users. AreAll IsUser users × (length users ≤ MAX_USERS))
    (λ users facts. (facts.0, leb-true _ _ facts.1)) (λ users facts. (facts.0, le-leb _ _ facts.1))

-- ---- constraints

pub reads_pattern : Reads text_bytes IsPatternText pattern_at
unfolding pattern_at
reads_pattern = reads_test text_bytes IsText text_at reads_text is_pattern

methods_after : ℕ × List ℕ → Option (Methods × List ℕ)
methods_after tag =
    cond (eqb tag.0 0) (Some (methods.All, tag.1))
    (cond (eqb tag.0 1) (form_at methods.Only texts_at tag.1) (cond (eqb tag.0 2) (form_at methods.Except texts_at tag.1) None))

methods_take : (bytes : List ℕ) (x : Methods) (rest : List ℕ) → IsBytes bytes → methods_at bytes ≡ Some (x, rest) → Took bytes (methods_bytes x) rest (AreMethods x)
unfolding methods_at methods_after
methods_take bytes x rest are e =
    let a = bind_some (byte_at bytes) methods_after (x, rest) e in
    let t = byte_takes bytes a.0.0 a.0.1 are a.1 in
    elim (chosen (eqb a.0.0 0) (Some (methods.All, a.0.1)) (cond (eqb a.0.0 1) (form_at methods.Only texts_at a.0.1) (cond (eqb a.0.0 2) (form_at methods.Except texts_at a.0.1) None)) (Some (x, rest)) a.2) as (λ _. Took bytes (methods_bytes x) rest (AreMethods x)) [
      | inl p ↦ constant_takes methods_bytes AreMethods 0 a.0.0 bytes a.0.1 t (eqb-true _ _ p.0) methods.All refl tt x rest p.1
      | inr q ↦ elim (chosen (eqb a.0.0 1) (form_at methods.Only texts_at a.0.1) (cond (eqb a.0.0 2) (form_at methods.Except texts_at a.0.1) None) (Some (x, rest)) q.1) as (λ _. Took bytes (methods_bytes x) rest (AreMethods x)) [
        | inl p ↦ tagged_takes methods_bytes AreMethods 1 a.0.0 bytes a.0.1 t (eqb-true _ _ p.0) texts_bytes AreTexts texts_at reads_texts methods.Only (λ y. refl) (λ y fits. fits) x rest p.1
        | inr r ↦ elim (chosen (eqb a.0.0 2) (form_at methods.Except texts_at a.0.1) None (Some (x, rest)) r.1) as (λ _. Took bytes (methods_bytes x) rest (AreMethods x)) [
          | inl p ↦ tagged_takes methods_bytes AreMethods 2 a.0.0 bytes a.0.1 t (eqb-true _ _ p.0) texts_bytes AreTexts texts_at reads_texts methods.Except (λ y. refl) (λ y fits. fits) x rest p.1
          | inr n ↦ absurd (let e : None ≡ Some (x, rest) = n.1 in cc)
        ]
      ]
    ]

methods_again : (x : Methods) (rest : List ℕ) → AreMethods x → methods_at (methods_bytes x ++ rest) ≡ Some (x, rest)
unfolding methods_at
methods_again methods.All rest fits = rw (byte_again 0 rest) refl
methods_again (methods.Only names) rest fits = rw (byte_again 1 (texts_bytes names ++ rest), reads_texts.again names rest fits) refl
methods_again (methods.Except names) rest fits = rw (byte_again 2 (texts_bytes names ++ rest), reads_texts.again names rest fits) refl

pub reads_methods : Reads methods_bytes AreMethods methods_at
reads_methods = record { takes = methods_take; again = methods_again }

auth_after : ℕ × List ℕ → Option (Auth × List ℕ)
auth_after tag = cond (eqb tag.0 0) (Some (auth.Absent, tag.1)) (cond (eqb tag.0 1) (form_at auth.Roles texts_at tag.1) None)

auth_take : (bytes : List ℕ) (x : Auth) (rest : List ℕ) → IsBytes bytes → auth_at bytes ≡ Some (x, rest) → Took bytes (auth_bytes x) rest (IsAuth x)
unfolding auth_at auth_after
auth_take bytes x rest are e =
    let a = bind_some (byte_at bytes) auth_after (x, rest) e in
    let t = byte_takes bytes a.0.0 a.0.1 are a.1 in
    elim (chosen (eqb a.0.0 0) (Some (auth.Absent, a.0.1)) (cond (eqb a.0.0 1) (form_at auth.Roles texts_at a.0.1) None) (Some (x, rest)) a.2) as (λ _. Took bytes (auth_bytes x) rest (IsAuth x)) [
      | inl p ↦ constant_takes auth_bytes IsAuth 0 a.0.0 bytes a.0.1 t (eqb-true _ _ p.0) auth.Absent refl tt x rest p.1
      | inr q ↦ elim (chosen (eqb a.0.0 1) (form_at auth.Roles texts_at a.0.1) None (Some (x, rest)) q.1) as (λ _. Took bytes (auth_bytes x) rest (IsAuth x)) [
        | inl p ↦ tagged_takes auth_bytes IsAuth 1 a.0.0 bytes a.0.1 t (eqb-true _ _ p.0) texts_bytes AreTexts texts_at reads_texts auth.Roles (λ y. refl) (λ y fits. fits) x rest p.1
        | inr n ↦ absurd (let e : None ≡ Some (x, rest) = n.1 in cc)
      ]
    ]

auth_again : (x : Auth) (rest : List ℕ) → IsAuth x → auth_at (auth_bytes x ++ rest) ≡ Some (x, rest)
unfolding auth_at
auth_again auth.Absent rest fits = rw (byte_again 0 rest) refl
auth_again (auth.Roles names) rest fits = rw (byte_again 1 (texts_bytes names ++ rest), reads_texts.again names rest fits) refl

pub reads_auth : Reads auth_bytes IsAuth auth_at
reads_auth = record { takes = auth_take; again = auth_again }

abbrev IsTransport : Transport → Type 0
IsTransport x = Unit {0}

abbrev transport_none : Option (Transport × List ℕ)
transport_none = None

transport_after : ℕ × List ℕ → Option (Transport × List ℕ)
transport_after tag =
    cond (eqb tag.0 0) (Some (transport.Absent, tag.1)) (cond (eqb tag.0 1) (Some (transport.Plain, tag.1))
    (cond (eqb tag.0 2) (Some (transport.Integral, tag.1)) (cond (eqb tag.0 3) (Some (transport.Confidential, tag.1)) None)))

transport_takes : (bytes : List ℕ) (x : Transport) (rest : List ℕ) → IsBytes bytes → transport_at bytes ≡ Some (x, rest) → Took bytes (transport_bytes x) rest (IsTransport x)
unfolding transport_at transport_after
transport_takes bytes x rest are e =
    let a = bind_some (byte_at bytes) transport_after (x, rest) e in
    let t = byte_takes bytes a.0.0 a.0.1 are a.1 in
    let Goal : Type 0 = Took bytes (transport_bytes x) rest (IsTransport x) in
    elim (chosen (eqb a.0.0 0) (Some (transport.Absent, a.0.1)) (cond (eqb a.0.0 1) (Some (transport.Plain, a.0.1)) (cond (eqb a.0.0 2) (Some (transport.Integral, a.0.1)) (cond (eqb a.0.0 3) (Some (transport.Confidential, a.0.1)) None))) (Some (x, rest)) a.2) as (λ _. Goal) [
      | inl p ↦ constant_takes transport_bytes IsTransport 0 a.0.0 bytes a.0.1 t (eqb-true _ _ p.0) transport.Absent refl tt x rest p.1
      | inr q ↦ elim (chosen (eqb a.0.0 1) (Some (transport.Plain, a.0.1)) (cond (eqb a.0.0 2) (Some (transport.Integral, a.0.1)) (cond (eqb a.0.0 3) (Some (transport.Confidential, a.0.1)) None)) (Some (x, rest)) q.1) as (λ _. Goal) [
        | inl p ↦ constant_takes transport_bytes IsTransport 1 a.0.0 bytes a.0.1 t (eqb-true _ _ p.0) transport.Plain refl tt x rest p.1
        | inr r ↦ elim (chosen (eqb a.0.0 2) (Some (transport.Integral, a.0.1)) (cond (eqb a.0.0 3) (Some (transport.Confidential, a.0.1)) None) (Some (x, rest)) r.1) as (λ _. Goal) [
          | inl p ↦ constant_takes transport_bytes IsTransport 2 a.0.0 bytes a.0.1 t (eqb-true _ _ p.0) transport.Integral refl tt x rest p.1
          | inr s ↦ elim (chosen (eqb a.0.0 3) (Some (transport.Confidential, a.0.1)) transport_none (Some (x, rest)) s.1) as (λ _. Goal) [
            | inl p ↦ constant_takes transport_bytes IsTransport 3 a.0.0 bytes a.0.1 t (eqb-true _ _ p.0) transport.Confidential refl tt x rest p.1
            | inr n ↦ absurd (let e : None ≡ Some (x, rest) = n.1 in cc)
          ]
        ]
      ]
    ]

transport_again : (x : Transport) (rest : List ℕ) → IsTransport x → transport_at (transport_bytes x ++ rest) ≡ Some (x, rest)
unfolding transport_at
transport_again transport.Absent rest fits = rw (byte_again 0 rest) refl
transport_again transport.Plain rest fits = rw (byte_again 1 rest) refl
transport_again transport.Integral rest fits = rw (byte_again 2 rest) refl
transport_again transport.Confidential rest fits = rw (byte_again 3 rest) refl

pub reads_transport : Reads transport_bytes IsTransport transport_at
reads_transport = record { takes = transport_takes; again = transport_again }

pub reads_collection : Reads collection_bytes IsCollection collection_at
unfolding collection_at
reads_collection =
    reads_as collection_bytes _ collection_at
    (reads_form _ _ _
    (reads_pair texts_bytes (AreAll IsPatternText) (list_at pattern_at) (reads_list text_bytes IsPatternText pattern_at reads_pattern) _ _ _
    (reads_pair methods_bytes AreMethods methods_at reads_methods _ _ _ reads_nothing))
    collection_of (λ collection. (collection.patterns, (collection.methods, tt))) (λ collection. refl) (λ parts. refl))
    IsCollection (λ collection facts. (facts.0, facts.1.0)) (λ collection facts. (facts.0, (facts.1, tt)))

pub reads_constraint : Reads constraint_bytes IsConstraint constraint_at
unfolding constraint_at
reads_constraint =
    reads_as constraint_bytes _ constraint_at
    (reads_form _ _ _
    (reads_pair number_bytes IsNumber number_at reads_number _ _ _
    (reads_pair (list_bytes collection_bytes) (AreAll IsCollection) (list_at collection_at) (reads_list collection_bytes IsCollection collection_at reads_collection) _ _ _
    (reads_pair auth_bytes IsAuth auth_at reads_auth _ _ _
    (reads_pair transport_bytes IsTransport transport_at reads_transport _ _ _ reads_nothing))))
    constraint_of (λ constraint. (constraint.number, (constraint.collections, (constraint.auth, (constraint.transport, tt))))) (λ constraint. refl) (λ parts. refl))
    IsConstraint (λ constraint facts. (facts.0, facts.1.0, facts.1.1.0)) (λ constraint facts. (facts.0, (facts.1, (facts.2, (tt, tt)))))

pub reads_constraints : Reads (list_bytes constraint_bytes) (AreAll IsConstraint) (list_at constraint_at)
reads_constraints = reads_list constraint_bytes IsConstraint constraint_at reads_constraint

-- ---- sessions

pub reads_attribute : Reads attribute_bytes IsAttribute attribute_at
unfolding attribute_at
reads_attribute =
    reads_as attribute_bytes _ attribute_at
    (reads_form _ _ _
    (reads_pair text_bytes IsText text_at reads_text _ _ _ (reads_pair text_bytes IsText text_at reads_text _ _ _ reads_nothing))
    attribute_of (λ attribute. (attribute.name, (attribute.value, tt))) (λ attribute. refl) (λ parts. refl))
    IsAttribute (λ attribute facts. (facts.0, facts.1.0)) (λ attribute facts. (facts.0, (facts.1, tt)))

abbrev IsCaller : ℕ → Type 0
IsCaller number = number < 2 ^ 32

pub reads_caller : Reads number_bytes IsCaller caller_at
unfolding caller_at
reads_caller =
    reads_as number_bytes _ caller_at (reads_test number_bytes IsNumber number_at reads_number (λ number. nat_lt number (2 ^ 32)))
    IsCaller (λ number facts. ltb-true _ _ facts.1) (λ number facts. (omega (arith, facts), lt-ltb _ _ facts))

pub reads_session : Reads session_bytes IsSession session_at
unfolding session_at
reads_session =
    reads_as session_bytes _ session_at
    (reads_form _ _ _
    (reads_pair number_bytes IsNumber number_at reads_number _ _ _
    (reads_pair text_bytes IsText text_at reads_text _ _ _
    (reads_pair number_bytes IsNumber number_at reads_number _ _ _
    (reads_pair (optional_bytes number_bytes) (λ caller. IfSome caller IsCaller) (option_at caller_at) (reads_option number_bytes IsCaller caller_at reads_caller) _ _ _
    (reads_pair (optional_bytes text_bytes) (λ saved. IfSome saved IsText) (option_at text_at) (reads_option text_bytes IsText text_at reads_text) _ _ _
    (reads_pair (list_bytes attribute_bytes) (AreAll IsAttribute) (list_at attribute_at) (reads_list attribute_bytes IsAttribute attribute_at reads_attribute) _ _ _ reads_nothing))))))
    session_of (λ session. (session.number, (session.id, (session.last_access, (session.caller, (session.saved, (session.attributes, tt))))))) (λ session. refl) (λ parts. refl))
    IsSession (λ session facts. (facts.0, facts.1.0, facts.1.1.0, facts.1.1.1.0, facts.1.1.1.1.0, facts.1.1.1.1.1.0))
    (λ session facts. (facts.0, (facts.1, (facts.2, (facts.3, (facts.4, (facts.5, tt)))))))

pub reads_sessions : Reads (list_bytes session_bytes) (AreAll IsSession) (list_at session_at)
reads_sessions = reads_list session_bytes IsSession session_at reads_session

-- ---- the first line

reads_line : Reads (λ (line : List ℕ). line) (λ line. length line ≡ length magic_line) (bytes_at (length magic_line))
reads_line = record {
  takes = λ bytes x rest are e.
      let t = bytes_takes (length magic_line) bytes x rest are e in record { parts = t.parts; rest_fits = t.rest_fits; fits = t.count };
  again = λ x rest fits. bytes_again (length magic_line) x rest fits;
}

abbrev is_magic : List ℕ → Bool
is_magic line = bytes_eq line magic_line

reads_tested : Reads (λ (line : List ℕ). line) (λ line. (length line ≡ length magic_line) × IsTrue (is_magic line)) (test_at is_magic (bytes_at (length magic_line)))
reads_tested = reads_test (λ line. line) (λ line. length line ≡ length magic_line) (bytes_at (length magic_line)) reads_line is_magic

abbrev pub magic_bytes : Unit {0} → List ℕ
magic_bytes x = magic_line

pub reads_magic : Reads magic_bytes (λ x. Unit {0}) magic_at
unfolding magic_at
reads_magic = record {
  takes = λ bytes x rest are e.
      let a = bind_some (test_at is_magic (bytes_at (length magic_line)) bytes) (λ line. Some (tt, line.1)) (x, rest) e in
      let t = reads_tested.takes bytes a.0.0 a.0.1 are a.1 in
      let is : a.0.0 ≡ magic_line = (bytes_eq-Decides a.0.0 magic_line).0 t.fits.1 in
      let made : Took bytes magic_line a.0.1 (Unit {0}) = record { parts = t.parts ∙ ap (λ (front : List ℕ). front ++ a.0.1) is; rest_fits = t.rest_fits; fits = tt } in
      subst (λ (y : Unit {0} × List ℕ). Took bytes magic_line y.1 (Unit {0})) (some_is (tt, a.0.1) (x, rest) a.2) made;
  again = λ x rest fits. rw (reads_tested.again magic_line rest (refl, (bytes_eq-Decides magic_line magic_line).1 refl)) refl;
}
