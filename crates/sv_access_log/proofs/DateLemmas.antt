-- The dates of a log are cut from the text of a date, and consist of printable bytes.
use Rattle.std.proofs.Common.{◌≡◌, ℕ, ◌+◌, ◌/◌, ◌%◌, ◌<◌, ◌≤◌, suc, zero, Bool, true, List, [], ◌∷◌, ◌++◌, codes, get_or, length, refl, sym, ap, ap₂, cond, ◌||◌, ◌==◌, false, ◌∙◌, arith}
use Rattle.std.specs.Int.{IsInRange}
use Rattle.std.specs.List.{list_all}
use Rattle.std.proofs.lemmas.Slice.Eq.{text_from_reads}
use Rattle.httpdate.specs.Calendar.{days_in_month, is_leap_year}
use Rattle.httpdate.specs.Date.{date_text}
use Rattle.httpdate.specs.Text.{day_name, four_digits, month_name, time_of_day, two_digits}
use Rattle.httpdate.specs.declared.date.HttpDate.{HttpDate}
use Rattle.httpdate.specs.declared.parts.Parts.{Parts}
use Rattle.sv_access_log.proofs.Parts.{IsPart, above_mark, join, literal, part_join}
use Rattle.sv_access_log.specs.Dates.{internet_date, log_date, month_number}

-- ---- Names

abbrev IsName : List ℕ → Type 0
IsName name = (length name ≡ 3) × IsPart 0 name

month_is : (n : ℕ) → IsInRange 1 12 n → IsName (month_name n)
month_is (suc zero) h = (refl, record { printable = refl; count = refl })
month_is (suc (suc zero)) h = (refl, record { printable = refl; count = refl })
month_is (suc (suc (suc zero))) h = (refl, record { printable = refl; count = refl })
month_is (suc (suc (suc (suc zero)))) h = (refl, record { printable = refl; count = refl })
month_is (suc (suc (suc (suc (suc zero))))) h = (refl, record { printable = refl; count = refl })
month_is (suc (suc (suc (suc (suc (suc zero)))))) h = (refl, record { printable = refl; count = refl })
month_is (suc (suc (suc (suc (suc (suc (suc zero))))))) h = (refl, record { printable = refl; count = refl })
month_is (suc (suc (suc (suc (suc (suc (suc (suc zero)))))))) h = (refl, record { printable = refl; count = refl })
month_is (suc (suc (suc (suc (suc (suc (suc (suc (suc zero))))))))) h = (refl, record { printable = refl; count = refl })
month_is (suc (suc (suc (suc (suc (suc (suc (suc (suc (suc zero)))))))))) h = (refl, record { printable = refl; count = refl })
month_is (suc (suc (suc (suc (suc (suc (suc (suc (suc (suc (suc zero))))))))))) h = (refl, record { printable = refl; count = refl })
month_is (suc (suc (suc (suc (suc (suc (suc (suc (suc (suc (suc (suc zero)))))))))))) h = (refl, record { printable = refl; count = refl })
month_is zero h = absurd (omega (arith, h))
month_is (suc (suc (suc (suc (suc (suc (suc (suc (suc (suc (suc (suc (suc k))))))))))))) h = absurd (omega (arith, h))

day_is : (n : ℕ) → IsInRange 1 7 n → length (day_name n) ≡ 3
day_is (suc zero) h = refl
day_is (suc (suc zero)) h = refl
day_is (suc (suc (suc zero))) h = refl
day_is (suc (suc (suc (suc zero)))) h = refl
day_is (suc (suc (suc (suc (suc zero))))) h = refl
day_is (suc (suc (suc (suc (suc (suc zero)))))) h = refl
day_is (suc (suc (suc (suc (suc (suc (suc zero))))))) h = refl
day_is zero h = absurd (omega (arith, h))
day_is (suc (suc (suc (suc (suc (suc (suc (suc k)))))))) h = absurd (omega (arith, h))

-- ---- The log's date

-- The text of a date, with these names of its day and month.
abbrev text_with : List ℕ → List ℕ → Parts → List ℕ
text_with day month p =
    day ++ codes ", " ++ two_digits p.day ++ codes " " ++ month ++ codes " " ++ four_digits p.year ++ codes " " ++ time_of_day p ++ codes " GMT"

abbrev pub log_cut : List ℕ → List ℕ
log_cut t =
    get_or t 5 0 ∷ get_or t 6 0 ∷ 47 ∷ get_or t 8 0 ∷ get_or t 9 0 ∷ get_or t 10 0 ∷ 47 ∷ get_or t 12 0 ∷ get_or t 13 0 ∷ get_or t 14 0 ∷ get_or t 15 0
    ∷ 58 ∷ get_or t 17 0 ∷ get_or t 18 0 ∷ 58 ∷ get_or t 20 0 ∷ get_or t 21 0 ∷ 58 ∷ get_or t 23 0 ∷ get_or t 24 0 ∷ 32 ∷ 43 ∷ 48 ∷ 48 ∷ 48 ∷ 48 ∷ []

-- The log's date, with this name of its month.
abbrev log_with : List ℕ → Parts → List ℕ
log_with month p = two_digits p.day ++ codes "/" ++ month ++ codes "/" ++ four_digits p.year ++ codes ":" ++ time_of_day p ++ codes " +0000"

three : (xs : List ℕ) → length xs ≡ 3 → (a b c : ℕ) × (xs ≡ a ∷ b ∷ c ∷ [])
three xs long = (get_or xs 0 0, get_or xs 1 0, get_or xs 2 0, text_from_reads xs _ long (refl, (refl, (refl, tt))))

log_cut_is : (a b c x y z : ℕ) (p : Parts) → log_cut (text_with (a ∷ b ∷ c ∷ []) (x ∷ y ∷ z ∷ []) p) ≡ log_with (x ∷ y ∷ z ∷ []) p
log_cut_is a b c x y z p = refl

weekday_range : (date : HttpDate) → IsInRange 1 7 date.parts.wday
weekday_range date = let day = date.right_day in (omega arith, omega arith)

pub log_date_is : (date : HttpDate) → log_cut (date_text date) ≡ log_date date
log_date_is date =
    let (a, b, c, day) = three (day_name date.parts.wday) (day_is date.parts.wday (weekday_range date)) in
    let (x, y, z, month) = three (month_name date.parts.mon) (month_is date.parts.mon date.civil.1).0 in
    ap₂ (λ d m. log_cut (text_with d m date.parts)) day month ∙ log_cut_is a b c x y z date.parts ∙ sym (ap (λ m. log_with m date.parts) month)

-- ---- The date of the Internet

abbrev pub internet_cut_with : List ℕ → ℕ → List ℕ
internet_cut_with t month =
    get_or t 12 0 ∷ get_or t 13 0 ∷ get_or t 14 0 ∷ get_or t 15 0 ∷ 45 ∷ (48 + month / 10) ∷ (48 + month % 10) ∷ 45 ∷ get_or t 5 0 ∷ get_or t 6 0 ∷ 84
    ∷ get_or t 17 0 ∷ get_or t 18 0 ∷ 58 ∷ get_or t 20 0 ∷ get_or t 21 0 ∷ 58 ∷ get_or t 23 0 ∷ get_or t 24 0 ∷ 90 ∷ []

abbrev pub internet_cut : List ℕ → List ℕ
internet_cut t = internet_cut_with t (month_number (get_or t 9 0) (get_or t 10 0))

-- The date of the Internet, with this number of its month.
abbrev internet_with : ℕ → Parts → List ℕ
internet_with month p =
    four_digits p.year ++ codes "-" ++ two_digits month ++ codes "-" ++ two_digits p.day ++ codes "T" ++ time_of_day p ++ codes "Z"

internet_cut_is : (a b c x y z : ℕ) (p : Parts) → internet_cut (text_with (a ∷ b ∷ c ∷ []) (x ∷ y ∷ z ∷ []) p) ≡ internet_with (month_number y z) p
internet_cut_is a b c x y z p = refl

number_is : (n : ℕ) → IsInRange 1 12 n → month_number (get_or (month_name n) 1 0) (get_or (month_name n) 2 0) ≡ n
number_is (suc zero) h = refl
number_is (suc (suc zero)) h = refl
number_is (suc (suc (suc zero))) h = refl
number_is (suc (suc (suc (suc zero)))) h = refl
number_is (suc (suc (suc (suc (suc zero))))) h = refl
number_is (suc (suc (suc (suc (suc (suc zero)))))) h = refl
number_is (suc (suc (suc (suc (suc (suc (suc zero))))))) h = refl
number_is (suc (suc (suc (suc (suc (suc (suc (suc zero)))))))) h = refl
number_is (suc (suc (suc (suc (suc (suc (suc (suc (suc zero))))))))) h = refl
number_is (suc (suc (suc (suc (suc (suc (suc (suc (suc (suc zero)))))))))) h = refl
number_is (suc (suc (suc (suc (suc (suc (suc (suc (suc (suc (suc zero))))))))))) h = refl
number_is (suc (suc (suc (suc (suc (suc (suc (suc (suc (suc (suc (suc zero)))))))))))) h = refl
number_is zero h = absurd (omega (arith, h))
number_is (suc (suc (suc (suc (suc (suc (suc (suc (suc (suc (suc (suc (suc k))))))))))))) h = absurd (omega (arith, h))

pub internet_date_is : (date : HttpDate) → internet_cut (date_text date) ≡ internet_date date
internet_date_is date =
    let (a, b, c, day) = three (day_name date.parts.wday) (day_is date.parts.wday (weekday_range date)) in
    let (x, y, z, month) = three (month_name date.parts.mon) (month_is date.parts.mon date.civil.1).0 in
    let number = sym (ap (λ m. month_number (get_or m 1 0) (get_or m 2 0)) month) ∙ number_is date.parts.mon date.civil.1 in
    ap₂ (λ d m. internet_cut (text_with d m date.parts)) day month ∙ internet_cut_is a b c x y z date.parts ∙ ap (λ n. internet_with n date.parts) number

-- ---- Printable bytes

two_part : (n : ℕ) → n < 100 → IsPart 0 (two_digits n)
two_part n low =
    part_join 0 0 ((48 + n / 10) ∷ []) ((48 + n % 10) ∷ []) (above_mark (48 + n / 10) (omega arith) (omega (arith, low))) (above_mark (48 + n % 10) (omega arith) (omega arith))

four_part : (n : ℕ) → n < 10000 → IsPart 0 (four_digits n)
four_part n low = part_join 0 0 (two_digits (n / 100)) (two_digits (n % 100)) (two_part (n / 100) (omega (arith, low))) (two_part (n % 100) (omega arith))

time_part : (date : HttpDate) → IsPart 0 (time_of_day date.parts)
time_part date =
    let (hour, min, sec) = date.time in
    join (join (join (join (two_part date.parts.hour (omega (arith, hour))) (literal 58 refl refl)) (two_part date.parts.min (omega (arith, min)))) (literal 58 refl refl))
    (two_part date.parts.sec (omega (arith, sec)))

day_low : (y m d : ℕ) → d ≤ days_in_month y m → d < 100
day_low y m d low = omega (arith, low, at_most y m)
  where
    by_leap : (t : Bool) → cond t 29 28 ≤ 31
    by_leap true = omega arith
    by_leap false = omega arith

    by_month : (t u : Bool) (n : ℕ) → n ≤ 31 → cond t n (cond u 30 31) ≤ 31
    by_month true u n most = most
    by_month false true n most = omega arith
    by_month false false n most = omega arith

    at_most : (y m : ℕ) → days_in_month y m ≤ 31
    at_most y m = by_month (m == 2) ((m == 4) || (m == 6) || (m == 9) || (m == 11)) _ (by_leap (is_leap_year y))

pub log_date_part : (date : HttpDate) → IsPart 0 (log_date date)
log_date_part date =
    let (year, mon, day) = date.civil in
    join (join (join (join (join (join (join (two_part date.parts.day (day_low date.parts.year date.parts.mon date.parts.day day.1)) (literal 47 refl refl))
    (month_is date.parts.mon mon).1) (literal 47 refl refl)) (four_part date.parts.year (omega (arith, year.1)))) (literal 58 refl refl)) (time_part date))
    (record { printable = refl; count = refl })

pub internet_date_part : (date : HttpDate) → IsPart 0 (internet_date date)
internet_date_part date =
    let (year, mon, day) = date.civil in
    let month = two_part date.parts.mon (omega (arith, mon.1)) in
    let days = two_part date.parts.day (day_low date.parts.year date.parts.mon date.parts.day day.1) in
    join (join (join (join (join (join (join (four_part date.parts.year (omega (arith, year.1))) (literal 45 refl refl)) month) (literal 45 refl refl)) days)
    (literal 84 refl refl)) (time_part date)) (literal 90 refl refl)
