-- What a script that is made of a number says.
use Rattle.std.specs.Prelude.{ℕ, zero, suc, ◌+◌, ◌/◌, ◌%◌, List, [], ◌++◌, if◌then◌else◌, nat_eq, codes, decimal}
use Rattle.recorded_inputs.specs.Drawing.{next_word}

-- the request of this number, of the word that was drawn for it: an odd one posts, an even one looks
abbrev pub ask_line : ℕ → ℕ → List ℕ
ask_line number drawn =
    if nat_eq (drawn % 2) 1 then codes "ask askbot ann POST /post/ann/k1/q" ++ (decimal (drawn / 2 % 50) ++ (codes " b" ++ (decimal number ++ codes "\n")))
    else codes "ask askbot ann GET /show/q" ++ (decimal (drawn / 2 % 50) ++ codes "\n")

-- so many requests from this number on, the first of them of the word after this one
abbrev pub ask_lines : ℕ → ℕ → ℕ → List ℕ
ask_lines zero number word = []
ask_lines (suc more) number word = ask_line number (next_word word) ++ ask_lines more (number + 1) (next_word word)

-- the cancellation of the request of this number, where its word is divisible by 9
abbrev pub cancel_line : ℕ → ℕ → List ℕ
cancel_line number drawn =
    if nat_eq (drawn % 9) 0 then codes "cancel askbot/" ++ (decimal number ++ (codes " t" ++ (decimal number ++ codes " root\n"))) else []

abbrev pub cancel_lines : ℕ → ℕ → ℕ → List ℕ
cancel_lines zero number word = []
cancel_lines (suc more) number word = cancel_line number (next_word word) ++ cancel_lines more (number + 1) (next_word word)

-- a token, the requests, the cancellations of some, and all services settle
abbrev pub made_script : ℕ → ℕ → List ℕ
made_script seed n =
    codes "ask oauth ann PUT /token/ann k1\n" ++ (ask_lines n 1 (seed % 65537) ++ (cancel_lines n 1 (seed % 65537) ++ codes "settle 64\n"))
