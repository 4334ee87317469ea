-- The bytes of acts: a kind, and then the numbers of the rule.
use Rattle.std.specs.Prelude.{ℕ, Bool, true, false, cond, List, [], ◌∷◌, Ok, Err, ◌==◌}
use Rattle.model.specs.declared.Rule.{Rule}
use Rattle.model.specs.declared.Rule.TheVariants.{Take, Grant, Create, Remove}
use Rattle.codec.specs.declared.act.Transfer.{Transfer}
use Rattle.codec.specs.declared.fault.Fault.TheVariants.{UnknownKind}
use Rattle.codec.specs.Reading.{Read, ◌then◌, byte_at, below_at, flag_at}

-- The numbers of a take or a grant.
abbrev pub transfer_at : List ℕ → ℕ → ℕ → Read Transfer
transfer_at bs size at =
    below_at bs at size then λ who at1.
    below_at bs at1 size then λ other at2.
    below_at bs at2 8 then λ right at3.
    below_at bs at3 size then λ to next. Ok (record { who = who; other = other; right = right; to = to }, next)

abbrev pub taken : Transfer → Rule
taken t = Take (record { who = t.who; from = t.other; right = t.right; to = t.to })

abbrev pub granted : Transfer → Rule
granted t = Grant (record { who = t.who; into = t.other; right = t.right; to = t.to })

abbrev pub taking_at : List ℕ → ℕ → ℕ → Read Rule
taking_at bs size at = transfer_at bs size at then λ t next. Ok (taken t, next)

abbrev pub grant_at : List ℕ → ℕ → ℕ → Read Rule
grant_at bs size at = transfer_at bs size at then λ t next. Ok (granted t, next)

abbrev pub create_at : List ℕ → ℕ → ℕ → Read Rule
create_at bs size at =
    below_at bs at size then λ who at1.
    flag_at bs at1 then λ subject at2.
    byte_at bs at2 then λ rights next. Ok (Create (record { who = who; subject = subject; rights = rights }), next)

abbrev pub remove_at : List ℕ → ℕ → ℕ → Read Rule
remove_at bs size at =
    below_at bs at size then λ who at1.
    below_at bs at1 8 then λ right at2.
    below_at bs at2 size then λ to next. Ok (Remove (record { who = who; right = right; to = to }), next)

-- An act, in a book of so many vertices.
abbrev pub act_at : List ℕ → ℕ → ℕ → Read Rule
act_at bs size at =
    byte_at bs at then λ kind next.
    cond (kind == 2) (taking_at bs size next)
    (cond (kind == 3) (grant_at bs size next)
    (cond (kind == 4) (create_at bs size next) (cond (kind == 5) (remove_at bs size next) (Err (UnknownKind at)))))

abbrev pub flag_byte : Bool → ℕ
flag_byte true = 1
flag_byte false = 0

abbrev pub act_bytes : Rule → List ℕ
act_bytes (Take t) = 2 ∷ t.who ∷ t.from ∷ t.right ∷ t.to ∷ []
act_bytes (Grant g) = 3 ∷ g.who ∷ g.into ∷ g.right ∷ g.to ∷ []
act_bytes (Create c) = 4 ∷ c.who ∷ flag_byte c.subject ∷ c.rights ∷ []
act_bytes (Remove d) = 5 ∷ d.who ∷ d.right ∷ d.to ∷ []
