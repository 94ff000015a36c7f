-- Dates of a log, in UTC.
use Rattle.std.specs.Prelude.{ℕ, ◌==◌, List, ◌++◌, codes, if◌then◌else◌}
use Rattle.std.specs.Str.{byte}
use Rattle.httpdate.specs.Text.{four_digits, month_name, time_of_day, two_digits}
use Rattle.httpdate.specs.declared.date.HttpDate.{HttpDate}

-- `01/Dec/2026:03:13:03 +0000`, as in Apache's `%t`.
abbrev pub log_date : HttpDate → List ℕ
log_date date =
    two_digits date.parts.day ++ codes "/" ++ month_name date.parts.mon ++ codes "/" ++ four_digits date.parts.year ++ codes ":"
    ++ time_of_day date.parts ++ codes " +0000"

-- The number of the month whose name has these second and third letters.
abbrev pub month_number : ℕ → ℕ → ℕ
month_number second third =
    if third == byte "n" then (if second == byte "a" then 1 else 6)
    else if third == byte "b" then 2
    else if third == byte "r" then (if second == byte "a" then 3 else 4)
    else if third == byte "y" then 5
    else if third == byte "l" then 7
    else if third == byte "g" then 8
    else if third == byte "p" then 9
    else if third == byte "t" then 10
    else if third == byte "v" then 11
    else 12

-- `2026-12-01T03:13:03Z` (RFC 3339, section 5.6).
abbrev pub internet_date : HttpDate → List ℕ
internet_date date =
    four_digits date.parts.year ++ codes "-" ++ two_digits date.parts.mon ++ codes "-" ++ two_digits date.parts.day ++ codes "T"
    ++ time_of_day date.parts ++ codes "Z"
