-- The sample log: rounds of four events, each event a line.
use Rattle.std.specs.Prelude.{ℕ, zero, suc, ◌+◌, ◌-◌, ◌/◌, ◌%◌, ◌&&◌, Bool, nat_eq, nat_le, if◌then◌else◌, List, [], ◌++◌, codes, decimal}

-- the letter u and a number
abbrev pub user : ℕ → List ℕ
user n = codes "u" ++ decimal n

-- user n logs in in round n, and logs out in round n + 100
abbrev pub login : ℕ → List ℕ
login n = codes "login," ++ user n

abbrev pub logout : ℕ → List ℕ
logout n = codes "logout," ++ user n

abbrev pub access : ℕ → List ℕ
access n = codes "access," ++ user n

-- in which rounds the last event is an access of a user who has logged out
abbrev pub is_stray : ℕ → ℕ → Bool
is_stray seed n = nat_le 200 n && nat_eq ((n + seed) % 1000) 0

-- the fact at place q, from 0 to 3, of round n, from 0 on
abbrev pub fact : ℕ → ℕ → ℕ → List ℕ
fact seed n q =
    if nat_eq q 0 then login n
    else if nat_eq q 2 && nat_le 100 n then logout (n - 100)
    else if nat_eq q 3 && is_stray seed n then access (n - 200)
    else access n

-- the line of event k, from 1 on
abbrev pub line : ℕ → Bool → ℕ → List ℕ
line seed timed k = fact seed ((k - 1) / 4) ((k - 1) % 4) ++ (if timed then codes "," ++ decimal k else []) ++ codes "\n"

-- the lines of so many events, from event k on
abbrev pub lines : ℕ → Bool → ℕ → ℕ → List ℕ
lines seed timed k zero = []
lines seed timed k (suc n) = line seed timed k ++ lines seed timed (k + 1) n

-- the sample log of a seed and so many events
abbrev pub sample : ℕ → ℕ → Bool → List ℕ
sample seed events timed = lines seed timed 1 events
