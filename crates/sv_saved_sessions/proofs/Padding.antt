-- The bytes of a padded key.
use Rattle.std.proofs.Common.{◌≡◌, ℕ, suc, ◌+◌, ◌-◌, ◌<◌, ◌≤◌, List, [], ◌∷◌, ◌++◌, length, take, take-suc, take_all, set, get_or, replicate, bit_xor, refl, sym, ap, ◌∙◌, arith}
use Rattle.std.proofs.lemmas.List.{take_more_set, get_or-map, get_or_append_left, get_or-append_right, get_or-replicate, length-append, length-map, length-replicate}
use Rattle.sv_saved_sessions.specs.Hmac.{padded_key, whole_block}

abbrev zeros : ℕ → List ℕ
zeros count = replicate count 0

length_of_zeros : (count : ℕ) → length (zeros count) ≡ count
length_of_zeros count = let zero_byte : ℕ = 0 in length-replicate count zero_byte

whole_length : (key : List ℕ) → length key ≤ 64 → length (whole_block key) ≡ 64
whole_length key short = omega (arith, length-append key (zeros (64 - length key)), length_of_zeros (64 - length key))

pub padded_length : (pad : ℕ) (key : List ℕ) → length key ≤ 64 → length (padded_key pad key) ≡ 64
padded_length pad key short = omega (arith, length-map (whole_block key) (λ byte. bit_xor byte pad), whole_length key short)

padded_byte : (pad : ℕ) (key : List ℕ) (place : ℕ) → length key ≤ 64 → place < 64
    → get_or (padded_key pad key) place 0 ≡ bit_xor (get_or (whole_block key) place 0) pad
padded_byte pad key place short is_in = get_or-map (λ byte. bit_xor byte pad) (whole_block key) place 0 0 (omega (arith, whole_length key short))

pub byte_of_key : (pad : ℕ) (key : List ℕ) (place : ℕ) → place < length key → length key ≤ 64
    → get_or (padded_key pad key) place 0 ≡ bit_xor (get_or key place 0) pad
byte_of_key pad key place is_in short =
    padded_byte pad key place short (omega arith)
    ∙ ap (λ byte. bit_xor byte pad) (get_or_append_left key (zeros (64 - length key)) 0 place is_in)

pub byte_after_key : (pad : ℕ) (key : List ℕ) (place : ℕ) → length key ≤ 64 → length key ≤ place → place < 64
    → get_or (padded_key pad key) place 0 ≡ bit_xor 0 pad
byte_after_key pad key place short past is_in =
    padded_byte pad key place short is_in
    ∙ ap (λ byte. bit_xor byte pad) (get_or-append_right key (zeros (64 - length key)) (length key) place 0 refl past ∙ get_or-replicate (64 - length key) (place - length key) 0 0 (omega arith))

suc_is : (place : ℕ) → suc place ≡ place + 1
suc_is place = omega arith

pub one_more : (block padded : List ℕ) (place byte : ℕ) → take place block ≡ take place padded → place < length block → place < length padded
    → get_or padded place 0 ≡ byte → take (place + 1) (set block place byte) ≡ take (place + 1) padded
one_more block padded place byte so_far is_in within is =
    take_more_set block place byte is_in
    ∙ ap (λ (front : List ℕ). front ++ byte ∷ []) so_far
    ∙ ap (λ (last : ℕ). take place padded ++ last ∷ []) (sym is)
    ∙ sym (take-suc padded place 0 within)
    ∙ ap (λ (count : ℕ). take count padded) (suc_is place)

pub all_equal : (block padded : List ℕ) (place : ℕ) → take place block ≡ take place padded → length block ≤ place → length padded ≤ place
    → block ≡ padded
all_equal block padded place so_far whole padded_whole = sym (take_all place block whole) ∙ so_far ∙ take_all place padded padded_whole
