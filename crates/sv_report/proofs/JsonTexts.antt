-- The text of JSON, value by value.
use Rattle.std.proofs.Common.{rules, ◌≡◌, ℕ, false, true, List, [], ◌∷◌, ◌++◌, ◌∙◌, codes, map, refl, sym, ap, Result, Ok, Err, OnOk}
use Rattle.std.proofs.lemmas.List.{append_assoc}
use Rattle.std.specs.List.{flat_map}
use Rattle.serde_json.specs.Data.{Data, array, object, boolean, string, member, no_members}
use Rattle.serde_json.specs.View.{items_of}
use Rattle.serde_json.specs.Written.{compact_text, has_float, items_text}
use Rattle.sv_uri.specs.ContextPath.{shown_context}
use Rattle.sv_report.specs.Json.{audit_value, context_value, findings_value, rows_value, viewer_value}
use Rattle.sv_report.specs.JsonParts.{strings, unsearched_value}
use Rattle.sv_report.specs.declared.report.ContextReport.{ContextReport}
use Rattle.sv_text.specs.declared.no_memory.NoMemory.{NoMemory}
use Rattle.serde_json.proofs.OnLiterals.{serde_json_on_literals}

-- A value that is appended as another one without floats.
pub written : {A : Type 0} (result : Result A NoMemory) (old new : List ℕ) (d e : Data) → d ≡ e → has_float e ≡ false
    → OnOk result (has_float d ≡ false → new ≡ old ++ compact_text d) → OnOk result (new ≡ old ++ compact_text e)
written (Ok a) old new d e same none h = h (ap has_float same ∙ none) ∙ ap (λ value. old ++ compact_text value) same
written (Err fault) old new d e same none h = tt

later_items : {A : Type 0} (value : A → Data) (xs : List A)
    → items_text true (items_of (map value xs)) ≡ flat_map (λ x. codes "," ++ compact_text (value x)) xs ++ codes "]"
later_items value [] = refl
later_items value (x ∷ xs) = ap (λ rest. 44 ∷ (compact_text (value x) ++ rest)) (later_items value xs) ∙ sym (append_assoc (44 ∷ compact_text (value x)) (flat_map (λ y. codes "," ++ compact_text (value y)) xs) (codes "]"))

-- The items of a list, each but the first after a comma.
pub list_text : {A : Type 0} (value : A → Data) (x : A) (xs : List A)
    → compact_text (array (items_of (map value (x ∷ xs)))) ≡ codes "[" ++ (compact_text (value x) ++ (flat_map (λ y. codes "," ++ compact_text (value y)) xs ++ codes "]"))
list_text value x xs = ap (λ rest. 91 ∷ (compact_text (value x) ++ rest)) (later_items value xs)

grouped : (a x b y c rest : List ℕ) → a ++ (x ++ (b ++ (y ++ (c ++ rest)))) ≡ (a ++ x ++ b ++ y ++ c) ++ rest
grouped a x b y c rest = search (rules, append_assoc)

grouped_end : (a x b y c : List ℕ) → a ++ (x ++ (b ++ (y ++ c))) ≡ a ++ x ++ b ++ y ++ c
grouped_end a x b y c = search (rules, append_assoc)

grouped_more : (a x b y c z d rest : List ℕ) → a ++ (x ++ (b ++ (y ++ (c ++ (z ++ (d ++ rest)))))) ≡ (a ++ x ++ b ++ y ++ c ++ z ++ d) ++ rest
grouped_more a x b y c z d rest = search (rules, append_assoc)

abbrev start_text : ContextReport → List ℕ
start_text context =
    codes "{\"context\":" ++ compact_text (string (shown_context context.path)) ++ codes ",\"file\":" ++ compact_text (string context.file) ++ codes ",\"findings\":"

abbrev facts_text : ContextReport → List ℕ
facts_text context =
    codes ",\"hidden\":[\"/WEB-INF/*\",\"/META-INF/*\"],\"login\":" ++ compact_text (boolean context.has_login) ++ codes ",\"loginPost\":" ++ compact_text (boolean context.has_login)
    ++ codes ",\"otherContexts\":" ++ compact_text (strings context.others) ++ codes ",\"rows\":"

abbrev end_text : ContextReport → List ℕ
end_text context =
    codes ",\"unsearched\":" ++ compact_text (unsearched_value context.unsearched) ++ codes ",\"viewer\":" ++ compact_text (viewer_value context.viewer) ++ codes "}"

members_of : (path file findings login post others rows unsearched viewer : Data)
    → compact_text (object (member (codes "context") path (member (codes "file") file (member (codes "findings") findings
    (member (codes "hidden") (strings (codes "/WEB-INF/*" ∷ codes "/META-INF/*" ∷ [])) (member (codes "login") login (member (codes "loginPost") post
    (member (codes "otherContexts") others (member (codes "rows") rows (member (codes "unsearched") unsearched (member (codes "viewer") viewer no_members)))))))))))
    ≡ codes "{\"context\":" ++ (compact_text path ++ (codes ",\"file\":" ++ (compact_text file ++ (codes ",\"findings\":" ++ (compact_text findings
    ++ (codes ",\"hidden\":[\"/WEB-INF/*\",\"/META-INF/*\"],\"login\":" ++ (compact_text login ++ (codes ",\"loginPost\":" ++ (compact_text post
    ++ (codes ",\"otherContexts\":" ++ (compact_text others ++ (codes ",\"rows\":" ++ (compact_text rows
    ++ (codes ",\"unsearched\":" ++ (compact_text unsearched ++ (codes ",\"viewer\":" ++ (compact_text viewer ++ codes "}")))))))))))))))))
unfolding serde_json_on_literals
members_of path file findings login post others rows unsearched viewer = refl

in_groups : (path file findings login post others rows unsearched viewer : List ℕ)
    → codes "{\"context\":" ++ (path ++ (codes ",\"file\":" ++ (file ++ (codes ",\"findings\":" ++ (findings
    ++ (codes ",\"hidden\":[\"/WEB-INF/*\",\"/META-INF/*\"],\"login\":" ++ (login ++ (codes ",\"loginPost\":" ++ (post ++ (codes ",\"otherContexts\":" ++ (others ++ (codes ",\"rows\":"
    ++ (rows ++ (codes ",\"unsearched\":" ++ (unsearched ++ (codes ",\"viewer\":" ++ (viewer ++ codes "}")))))))))))))))))
    ≡ (codes "{\"context\":" ++ path ++ codes ",\"file\":" ++ file ++ codes ",\"findings\":") ++ (findings ++ ((codes ",\"hidden\":[\"/WEB-INF/*\",\"/META-INF/*\"],\"login\":"
    ++ login ++ codes ",\"loginPost\":" ++ post ++ codes ",\"otherContexts\":" ++ others ++ codes ",\"rows\":")
    ++ (rows ++ (codes ",\"unsearched\":" ++ unsearched ++ codes ",\"viewer\":" ++ viewer ++ codes "}"))))
in_groups path file findings login post others rows unsearched viewer =
    grouped (codes "{\"context\":") path (codes ",\"file\":") file (codes ",\"findings\":") _
    ∙ ap (λ rest. (codes "{\"context\":" ++ path ++ codes ",\"file\":" ++ file ++ codes ",\"findings\":") ++ (findings ++ rest))
    (grouped_more (codes ",\"hidden\":[\"/WEB-INF/*\",\"/META-INF/*\"],\"login\":") login (codes ",\"loginPost\":") post (codes ",\"otherContexts\":") others (codes ",\"rows\":") _)
    ∙ ap (λ rest. (codes "{\"context\":" ++ path ++ codes ",\"file\":" ++ file ++ codes ",\"findings\":") ++ (findings ++ ((codes ",\"hidden\":[\"/WEB-INF/*\",\"/META-INF/*\"],\"login\":"
    ++ login ++ codes ",\"loginPost\":" ++ post ++ codes ",\"otherContexts\":" ++ others ++ codes ",\"rows\":") ++ (rows ++ rest))))
    (grouped_end (codes ",\"unsearched\":") unsearched (codes ",\"viewer\":") viewer (codes "}"))

-- The text of a context.
context_text : (context : ContextReport)
    → compact_text (context_value context) ≡ start_text context ++ (compact_text (findings_value context) ++ (facts_text context ++ (compact_text (rows_value context) ++ end_text context)))
unfolding context_value
context_text context =
    members_of (string (shown_context context.path)) (string context.file) (findings_value context) (boolean context.has_login) (boolean context.has_login) (strings context.others)
    (rows_value context) (unsearched_value context.unsearched) (viewer_value context.viewer)
    ∙ in_groups (compact_text (string (shown_context context.path))) (compact_text (string context.file)) (compact_text (findings_value context)) (compact_text (boolean context.has_login))
    (compact_text (boolean context.has_login)) (compact_text (strings context.others)) (compact_text (rows_value context)) (compact_text (unsearched_value context.unsearched))
    (compact_text (viewer_value context.viewer))

audit_text : (contexts : List ContextReport)
    → compact_text (audit_value contexts) ++ codes "\n" ≡ codes "{\"contexts\":" ++ (compact_text (array (items_of (map context_value contexts))) ++ codes "}" ++ codes "\n")
unfolding audit_value serde_json_on_literals
audit_text contexts = refl

-- Two texts that were appended one after another.
step : (old mid new a b : List ℕ) → mid ≡ old ++ a → new ≡ mid ++ b → new ≡ old ++ (a ++ b)
step old mid new a b p q = q ∙ ap (λ text. text ++ b) p ∙ append_assoc old a b

four : (t0 t1 t2 t3 t4 a b c d : List ℕ) → t1 ≡ t0 ++ a → t2 ≡ t1 ++ b → t3 ≡ t2 ++ c → t4 ≡ t3 ++ d → t4 ≡ t0 ++ (a ++ (b ++ (c ++ d)))
four t0 t1 t2 t3 t4 a b c d p q r s = step t0 t1 t4 a (b ++ (c ++ d)) p (step t1 t2 t4 b (c ++ d) q (step t2 t3 t4 c d r s))

five : (t0 t1 t2 t3 t4 t5 a b c d e : List ℕ) → t1 ≡ t0 ++ a → t2 ≡ t1 ++ b → t3 ≡ t2 ++ c → t4 ≡ t3 ++ d → t5 ≡ t4 ++ e
    → t5 ≡ t0 ++ (a ++ (b ++ (c ++ (d ++ e))))
five t0 t1 t2 t3 t4 t5 a b c d e p q r s t = step t0 t1 t5 a (b ++ (c ++ (d ++ e))) p (four t1 t2 t3 t4 t5 b c d e q r s t)

-- A list whose items were appended one by one.
pub listed : {A : Type 0} (value : A → Data) (x : A) (xs all : List A) (old one two three new : List ℕ) → all ≡ x ∷ xs
    → one ≡ old ++ codes "[" → two ≡ one ++ compact_text (value x) → three ≡ two ++ flat_map (λ y. codes "," ++ compact_text (value y)) xs
    → new ≡ three ++ codes "]" → new ≡ old ++ compact_text (array (items_of (map value all)))
listed value x xs all old one two three new of_all p q r s =
    four old one two three new (codes "[") (compact_text (value x)) (flat_map (λ y. codes "," ++ compact_text (value y)) xs) (codes "]") p q r s
    ∙ ap (λ text. old ++ text) (sym (ap (λ ys. compact_text (array (items_of (map value ys)))) of_all ∙ list_text value x xs))

five_parts : (t0 t1 t2 t3 t4 t5 a b c d e : List ℕ) → t1 ≡ t0 ++ a → t2 ≡ t1 ++ b → t3 ≡ t2 ++ c → t4 ≡ t3 ++ d → t5 ≡ t4 ++ e
    → t5 ≡ t0 ++ (a ++ b ++ c ++ d ++ e)
five_parts t0 t1 t2 t3 t4 t5 a b c d e p q r s t = search (rules, append_assoc)

-- The places of a context, whose parts were appended one by one.
pub places_of_parts : (path file t0 t1 t2 t3 t4 t5 : List ℕ) → t1 ≡ t0 ++ codes "{\"context\":" → t2 ≡ t1 ++ compact_text (string path)
    → t3 ≡ t2 ++ codes ",\"file\":" → t4 ≡ t3 ++ compact_text (string file) → t5 ≡ t4 ++ codes ",\"findings\":"
    → t5 ≡ t0 ++ (codes "{\"context\":" ++ compact_text (string path) ++ codes ",\"file\":" ++ compact_text (string file) ++ codes ",\"findings\":")
places_of_parts path file t0 t1 t2 t3 t4 t5 p q r s t =
    five_parts t0 t1 t2 t3 t4 t5 (codes "{\"context\":") (compact_text (string path)) (codes ",\"file\":") (compact_text (string file)) (codes ",\"findings\":") p q r s t

-- The end of a context, whose parts were appended one by one.
pub end_of_parts : (context : ContextReport) (t0 t1 t2 t3 t4 t5 kinds : List ℕ) → kinds ≡ compact_text (unsearched_value context.unsearched)
    → t1 ≡ t0 ++ codes ",\"unsearched\":" → t2 ≡ t1 ++ kinds → t3 ≡ t2 ++ codes ",\"viewer\":" → t4 ≡ t3 ++ compact_text (viewer_value context.viewer)
    → t5 ≡ t4 ++ codes "}" → t5 ≡ t0 ++ end_text context
end_of_parts context t0 t1 t2 t3 t4 t5 kinds k p q r s t =
    five_parts t0 t1 t2 t3 t4 t5 (codes ",\"unsearched\":") (compact_text (unsearched_value context.unsearched)) (codes ",\"viewer\":") (compact_text (viewer_value context.viewer)) (codes "}")
    p (q ∙ ap (λ text. t1 ++ text) k) r s t

-- What is known of a context, whose parts were appended one by one.
pub facts_of_parts : (context : ContextReport) (t0 t1 t2 t3 t4 t5 t6 t7 login post others : List ℕ)
    → login ≡ compact_text (boolean context.has_login) → post ≡ compact_text (boolean context.has_login) → others ≡ compact_text (strings context.others)
    → t1 ≡ t0 ++ codes ",\"hidden\":[\"/WEB-INF/*\",\"/META-INF/*\"],\"login\":" → t2 ≡ t1 ++ login → t3 ≡ t2 ++ codes ",\"loginPost\":" → t4 ≡ t3 ++ post
    → t5 ≡ t4 ++ codes ",\"otherContexts\":" → t6 ≡ t5 ++ others → t7 ≡ t6 ++ codes ",\"rows\":" → t7 ≡ t0 ++ facts_text context
facts_of_parts context t0 t1 t2 t3 t4 t5 t6 t7 login post others l o s p q r u v w x =
    in_order (codes ",\"hidden\":[\"/WEB-INF/*\",\"/META-INF/*\"],\"login\":") login (codes ",\"loginPost\":") post (codes ",\"otherContexts\":") others (codes ",\"rows\":") p q r u v w x
    ∙ rw l (rw o (rw s refl))
  where
    in_order : (a b c d e f g : List ℕ) → t1 ≡ t0 ++ a → t2 ≡ t1 ++ b → t3 ≡ t2 ++ c → t4 ≡ t3 ++ d → t5 ≡ t4 ++ e → t6 ≡ t5 ++ f → t7 ≡ t6 ++ g
        → t7 ≡ t0 ++ (a ++ b ++ c ++ d ++ e ++ f ++ g)
    in_order a b c d e f g p q r s t u v = search (rules, append_assoc)

-- A context whose parts were appended one by one.
context_of_parts : (context : ContextReport) (t0 t1 t2 t3 t4 t5 : List ℕ) → t1 ≡ t0 ++ start_text context → t2 ≡ t1 ++ compact_text (findings_value context)
    → t3 ≡ t2 ++ facts_text context → t4 ≡ t3 ++ compact_text (rows_value context) → t5 ≡ t4 ++ end_text context
    → t5 ≡ t0 ++ compact_text (context_value context)
context_of_parts context t0 t1 t2 t3 t4 t5 p q r s t =
    five t0 t1 t2 t3 t4 t5 (start_text context) (compact_text (findings_value context)) (facts_text context) (compact_text (rows_value context)) (end_text context) p q r s t
    ∙ ap (λ text. t0 ++ text) (sym (context_text context))

abbrev contexts_text : List ContextReport → List ℕ
contexts_text contexts = compact_text (array (items_of (map context_value contexts)))

-- The whole text, whose parts were appended one by one.
pub audit_of_parts : (contexts : List ContextReport) (t0 t1 t2 t3 : List ℕ) → t0 ≡ [] → t1 ≡ t0 ++ codes "{\"contexts\":"
    → t2 ≡ t1 ++ compact_text (array (items_of (map context_value contexts))) → t3 ≡ t2 ++ codes "}\n" → t3 ≡ compact_text (audit_value contexts) ++ codes "\n"
audit_of_parts contexts t0 t1 t2 t3 none p q r =
    step t0 t1 t3 (codes "{\"contexts\":") (contexts_text contexts ++ codes "}\n") p (step t1 t2 t3 (contexts_text contexts) (codes "}\n") q r)
    ∙ ap (λ text. text ++ (codes "{\"contexts\":" ++ (contexts_text contexts ++ codes "}\n"))) none
    ∙ ap (λ text. codes "{\"contexts\":" ++ text) (sym (append_assoc (contexts_text contexts) (codes "}") (codes "\n")))
    ∙ sym (audit_text contexts)

pub context_written : {A : Type 0} (context : ContextReport) (result : Result A NoMemory) (t0 t1 t2 t3 t4 t5 findings rows : List ℕ)
    → findings ≡ compact_text (findings_value context) → rows ≡ compact_text (rows_value context) → t1 ≡ t0 ++ start_text context → t2 ≡ t1 ++ findings
    → t3 ≡ t2 ++ facts_text context → t4 ≡ t3 ++ rows → OnOk result (t5 ≡ t4 ++ end_text context) → OnOk result (t5 ≡ t0 ++ compact_text (context_value context))
context_written context (Ok a) t0 t1 t2 t3 t4 t5 findings rows f o p q r s t =
    context_of_parts context t0 t1 t2 t3 t4 t5 p (q ∙ ap (λ text. t1 ++ text) f) r (s ∙ ap (λ text. t3 ++ text) o) t
context_written context (Err fault) t0 t1 t2 t3 t4 t5 findings rows f o p q r s t = tt
