-- What a quorum rule means, and the four laws that every rule keeps. Assumes nothing.
--     Rule              a number of processes, a family of quorums and a family of tolerated sets
--     Blocking m s      no tolerated set of m contains s
--     Lawful m          m has 1 to 32 processes and keeps the four laws
--     Ground m          what the laws give: a quorum reaches outside each tolerated set and is blocking,
--                       and members from m's size up are disregarded
use Rattle.std.specs.Prelude.{◌≡◌, ℕ, ◌<◌, ◌≤◌, Bool, true, false}
use Rattle.sets.specs.Sets.{has, others, Within, Same}

pub record Rule : Type 0 where
  pub size : ℕ
  pub quorum : ℕ → Bool
  pub tolerated : ℕ → Bool

abbrev pub Blocking : Rule → ℕ → Type 0
Blocking m s = (t : ℕ) → m.tolerated t ≡ true → Within m.size s t → ⊥

pub record Lawful (m : Rule) : Type 0 where
  pub some : 1 ≤ m.size
  pub few : m.size ≤ 32
  -- two quorums share a process outside any given tolerated set
  pub meet : (a b t : ℕ) → m.quorum a ≡ true → m.quorum b ≡ true → m.tolerated t ≡ true → (j : ℕ) × (j < m.size) × (has a j ≡ true) × (has b j ≡ true) × (has t j ≡ false)
  -- the processes outside a tolerated set form a quorum
  pub rest : (t : ℕ) → m.tolerated t ≡ true → m.quorum (others m.size t) ≡ true
  -- a set of processes that contains a quorum is a quorum
  pub more : (a b : ℕ) → m.quorum a ≡ true → Within m.size a b → m.quorum b ≡ true
  -- the empty set is tolerated, and so is each part of a tolerated set
  pub none : m.tolerated 0 ≡ true
  pub part : (a b : ℕ) → m.tolerated b ≡ true → Within m.size a b → m.tolerated a ≡ true

pub record Ground (m : Rule) : Type 0 where
  pub reaches : (a t : ℕ) → m.quorum a ≡ true → m.tolerated t ≡ true → (j : ℕ) × (j < m.size) × (has a j ≡ true) × (has t j ≡ false)
  pub blocks : (a : ℕ) → m.quorum a ≡ true → Blocking m a
  pub quorum_same : (s t : ℕ) → Same m.size s t → m.quorum s ≡ m.quorum t
  pub tolerated_same : (s t : ℕ) → Same m.size s t → m.tolerated s ≡ m.tolerated t
