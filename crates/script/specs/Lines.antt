-- Lines that are requests. Assumes nothing.
--     and_then o f         f of what o holds; None where it holds nothing
--     up_to m n            the number n, where it is at most m
--     bits w n             the number n, where it has at most w bits
--     nth ns i             number i of ns, counted from 0
--     of_length m ns o     o, where ns is m numbers
--     opening ns           what ns asks for after the letter C: faults, foreign processes, first value
--     expiry ns            after the letter X: a process
--     delivery ns          after the letter D: a process and a place
--     one_move ns          after the letter M: a process
--     sweep ns             after the letter S: no number
--     slot_from m n        the slot n, where it is at least m and at most 31
--     cited m cs ns        the citations cs with those of ns, pairs of a slot and a place, the slots rising from m
--     no_citations         32 zeros
--     post ns              after the letter P: a process, kind, view, value and locked view, then citations
--     by_letter c ns       what the letter c and the numbers ns ask for: C (67), X (88), D (68), M (77), S (83) or P (80)
--     long bs              the line has more than 250 bytes
--     request bs           what a line asks for; None where it is a wrong line
--     longer bs b          the bytes bs with b after them, of which the first 251 are kept
--     kept bs cs           the bytes bs, and then cs one by one, of which the first 251 are kept
--     KeptEnough           what is kept of a line asks for what the line asks for
use Rattle.std.specs.Prelude.{◌≡◌, ℕ, suc, ◌^◌, Bool, cond, ◌&&◌, List, [], ◌∷◌, ◌++◌, length, drop, replicate, Some, None, Option, ◌==◌, nat_le, nat_lt, slice_index, slice_set}
use Rattle.numerals.specs.Reading.{parts}
use Rattle.protocol.specs.declared.call.Call.TheVariants.{Expire, Post, Deliver, MakeMove, Sweep}
use Rattle.script.specs.declared.request.Request.{Request}
use Rattle.script.specs.declared.request.Request.TheVariants.{Open, Carry}

module _ {A B : Type 0} where
  abbrev pub and_then : Option A → (A → Option B) → Option B
  and_then None f = None
  and_then (Some x) f = f x

abbrev pub up_to : ℕ → ℕ → Option ℕ
up_to m n = cond (nat_le n m) (Some n) None

abbrev pub bits : ℕ → ℕ → Option ℕ
bits w n = cond (nat_lt n (2 ^ w)) (Some n) None

abbrev nth : List ℕ → ℕ → ℕ
nth ns i = slice_index ns i

abbrev of_length : ℕ → List ℕ → Option Request → Option Request
of_length m ns o = cond (length ns == m) o None

abbrev pub opening : List ℕ → Option Request
opening ns =
    of_length 3 ns
    (and_then (bits 8 (nth ns 0)) (λ f.
    and_then (bits 32 (nth ns 1)) (λ g.
    and_then (up_to 1000000 (nth ns 2)) (λ b.
    Some (Open (record { faults = f; foreign = g; first = b }))))))

abbrev pub expiry : List ℕ → Option Request
expiry ns = of_length 1 ns (and_then (bits 8 (nth ns 0)) (λ i. Some (Carry (Expire i))))

abbrev pub delivery : List ℕ → Option Request
delivery ns =
    of_length 2 ns
    (and_then (bits 8 (nth ns 0)) (λ i.
    and_then (bits 16 (nth ns 1)) (λ k.
    Some (Carry (Deliver i k)))))

abbrev pub one_move : List ℕ → Option Request
one_move ns = of_length 1 ns (and_then (bits 8 (nth ns 0)) (λ i. Some (Carry (MakeMove i))))

abbrev pub sweep : List ℕ → Option Request
sweep ns = of_length 0 ns (Some (Carry Sweep))

abbrev pub slot_from : ℕ → ℕ → Option ℕ
slot_from m n = cond (nat_le m n && nat_lt n 32) (Some n) None

abbrev pub cited : ℕ → List ℕ → List ℕ → Option (List ℕ)
cited m cs [] = Some cs
cited m cs (n ∷ []) = None
cited m cs (n ∷ k ∷ ns) =
    and_then (slot_from m n) (λ j.
    and_then (bits 16 k) (λ place.
    cited (suc j) (slice_set cs j place) ns))

abbrev pub no_citations : List ℕ
no_citations = replicate 32 0

abbrev pub post : List ℕ → Option Request
post ns =
    cond (nat_lt (length ns) 5) None
    (and_then (bits 8 (nth ns 0)) (λ j.
    and_then (bits 8 (nth ns 1)) (λ kind.
    and_then (bits 32 (nth ns 2)) (λ view.
    and_then (bits 32 (nth ns 4)) (λ locked.
    and_then (cited 0 no_citations (drop 5 ns)) (λ cs.
    Some (Carry (Post j (record { kind = kind; view = view; value = nth ns 3; locked = locked; citations = cs })))))))))

abbrev pub by_letter : ℕ → List ℕ → Option Request
by_letter c ns =
    cond (c == 67) (opening ns)
    (cond (c == 88) (expiry ns)
    (cond (c == 68) (delivery ns)
    (cond (c == 77) (one_move ns)
    (cond (c == 83) (sweep ns)
    (cond (c == 80) (post ns)
    None)))))

abbrev pub long : List ℕ → Bool
long bs = nat_lt 250 (length bs)

abbrev pub request : List ℕ → Option Request
request bs = cond (long bs) None (and_then (parts bs) (λ line. by_letter line.0 line.1))

abbrev pub longer : List ℕ → ℕ → List ℕ
longer bs b = cond (nat_lt (length bs) 251) (bs ++ (b ∷ [])) bs

abbrev pub kept : List ℕ → List ℕ → List ℕ
kept bs [] = bs
kept bs (c ∷ cs) = kept (longer bs c) cs

abbrev pub KeptEnough : Type 0
KeptEnough = (bs : List ℕ) → request (kept [] bs) ≡ request bs
