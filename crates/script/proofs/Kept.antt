-- What is kept of a line that is read byte by byte. Assumes nothing.
--     kept_enough     it asks for what the line asks for
use Rattle.std.proofs.Common.{◌≡◌, ℕ, suc, ◌+◌, ◌<◌, ◌≤◌, Bool, true, false, ltb, List, [], ◌∷◌, ◌++◌, length, None, sym, refl, ap, ◌∙◌, append_assoc, append-nil, arith, length-append}
use Rattle.std.proofs.lemmas.Bool.{lt-ltb, ltb-true, ltb-false}
use Rattle.script.specs.Lines.{longer, kept, request, KeptEnough}

one_more : (bs : List ℕ) (c : ℕ) → length (bs ++ (c ∷ [])) ≡ suc (length bs)
one_more bs c = simp length-append (omega arith)

short : (cs bs : List ℕ) → length bs + length cs ≤ 250 → kept bs cs ≡ bs ++ cs
short [] bs h = sym (append-nil bs)
short (c ∷ cs) bs h =
    let l : length bs < 251 = omega arith in
    let n = one_more bs c in
    let e : longer bs c ≡ bs ++ (c ∷ []) = rw (lt-ltb (length bs) 251 l) in
    rw e (short cs (bs ++ (c ∷ [])) (omega arith) ∙ append_assoc bs (c ∷ []) cs)

over : (cs bs : List ℕ) → 250 < length bs + length cs → 250 < length (kept bs cs)
over [] bs h = omega arith
over (c ∷ cs) bs h = go (ltb (length bs) 251) refl (λ ds l. over cs ds l)
  where
    go : (b : Bool) → ltb (length bs) 251 ≡ b → ((ds : List ℕ) → 250 < length ds + length cs → 250 < length (kept ds cs)) → 250 < length (kept bs (c ∷ cs))
    go true e rest = let n = one_more bs c in rw e (rest (bs ++ (c ∷ [])) (omega arith))
    go false e rest = let l = ltb-false (length bs) 251 e in rw e (rest bs (omega arith))

wrong : (bs : List ℕ) → 250 < length bs → request bs ≡ None
wrong bs h = rw (lt-ltb 250 (length bs) h)

pub kept_enough : KeptEnough
kept_enough bs = go (ltb 250 (length bs)) refl
  where
    go : (b : Bool) → ltb 250 (length bs) ≡ b → request (kept [] bs) ≡ request bs
    go true e = let l = ltb-true 250 (length bs) e in wrong (kept [] bs) (over bs [] (omega arith)) ∙ sym (wrong bs l)
    go false e = let l = ltb-false 250 (length bs) e in ap request (short bs [] (omega arith))
