-- The first least of the ways that reach a count, way after way. Assumes nothing.
use mathlib.Core.Path.{◌≡◌, refl, sym, ap, ◌∙◌, subst⁻¹}
use mathlib.Core.Bool.{Bool, true, false, cond}
use mathlib.Core.List.{List, [], ◌∷◌, ◌++◌, append-nil, append_assoc}
use Prim.Native.Nat.{ℕ, suc, ◌+◌, ◌*◌, ◌/◌, ◌%◌, ◌<◌}
use native.Mathlib.Omega.{arith}
use lib.Dec.{T, eqb}
use lib.IntN.{ℤ, pos}
use lib.ListN.{length, get_or, take}
use lib.Seq.{take-suc}
use native.Mathlib.Numerals.{add-one}
use lib.Ieee.{Float, inf, lt}
use lib.Ieee.Scale.{finite}
use borrow.Author.Tests.{eq-eqb, ne_eqb}
use Rattle.least_cost.specs.Position.{Position}
use Rattle.least_cost.specs.Search.{least, holder}
use Rattle.least_cost.proofs.First.{least-append, holder-append}
use Rattle.least_cost.proofs.Trial.{nz-le}
use Rattle.beam_paths.specs.Path.{Path, Way, way_remaining, way_cost, way_levels, ways_of, ways, no_way}
use Rattle.beam_paths.specs.Step.{reaching, merged}
use Rattle.beam_paths.specs.Held.{no_path, way_of, Named}
use Rattle.beam_paths.specs.Entries.{EntryIs}
use Rattle.steps.specs.Best.{considered}
use Rattle.steps.specs.declared.best.Best.{Best}
use Rattle.beam_paths.specs.declared.entry.Entry.{Entry}
use Rattle.beam_row.specs.Entries.{way_at, ByWay, BestOf, BothOf}

-- ---- the ways as lists
pub ways-more : (xs : List Path) (x : Path) (cs : List ℤ) → ways (xs ++ (x ∷ [])) cs ≡ ways xs cs ++ ways_of x cs
unfolding ways
ways-more [] x cs = append-nil (ways_of x cs)
ways-more (y ∷ xs) x cs = ap (λ (ws : List Way). ways_of y cs ++ ws) (ways-more xs x cs) ∙ sym (append_assoc (ways_of y cs) (ways xs cs) (ways_of x cs))

pub ways-none : (cs : List ℤ) → ways [] cs ≡ []
unfolding ways
ways-none cs = refl

pub ways_of-more : (x : Path) (cs : List ℤ) (c : ℤ) → ways_of x (cs ++ (c ∷ [])) ≡ ways_of x cs ++ (record { path = x; level = c } ∷ [])
unfolding ways_of
ways_of-more x [] c = refl
ways_of-more x (d ∷ cs) c = ap (λ (ws : List Way). record { path = x; level = d } ∷ ws) (ways_of-more x cs c)

pub ways_of-none : (x : Path) → ways_of x [] ≡ []
unfolding ways_of
ways_of-none x = refl

reaching-append : (n : ℕ) (us ws : List Way) → reaching n (us ++ ws) ≡ reaching n us ++ reaching n ws
unfolding reaching
reaching-append n [] ws = refl
reaching-append n (u ∷ us) ws = go (eqb (way_remaining u) n) (reaching-append n us ws)
  where
    go : (t : Bool) → reaching n (us ++ ws) ≡ reaching n us ++ reaching n ws → cond t (u ∷ reaching n (us ++ ws)) (reaching n (us ++ ws)) ≡ cond t (u ∷ reaching n us) (reaching n us) ++ reaching n ws
    go true e = ap (λ (vs : List Way). u ∷ vs) e
    go false e = e

reaching-one : (n : ℕ) (us : List Way) (w : Way) → way_remaining w ≡ n → reaching n (us ++ (w ∷ [])) ≡ reaching n us ++ (w ∷ [])
unfolding reaching
reaching-one n us w e = reaching-append n us (w ∷ []) ∙ ap (λ (t : Bool). reaching n us ++ cond t (w ∷ []) []) (eq-eqb (way_remaining w) n e)

reaching-other : (n : ℕ) (us : List Way) (w : Way) → (way_remaining w ≡ n → ⊥) → reaching n (us ++ (w ∷ [])) ≡ reaching n us
unfolding reaching
reaching-other n us w e = reaching-append n us (w ∷ []) ∙ ap (λ (t : Bool). reaching n us ++ cond t (w ∷ []) []) (ne_eqb (way_remaining w) n e) ∙ append-nil (reaching n us)

-- a path whose count and the next one are others leads nowhere
reaching-none : (n : ℕ) (x : Path) (cs : List ℤ) → (x.remaining ≡ n → ⊥) → (suc x.remaining ≡ n → ⊥) → reaching n (ways_of x cs) ≡ []
unfolding reaching ways_of way_remaining
reaching-none n x [] own next = refl
reaching-none n x (c ∷ cs) own next = rw (ne_eqb (way_remaining (record { path = x; level = c })) n other) (reaching-none n x cs own next)
  where
    other : way_remaining (record { path = x; level = c }) ≡ n → ⊥
    other e = let few = nz-le c in own (omega (arith, next))

-- ---- the best so far
best-same : {q : Position} {xs : List Path} {n p : ℕ} {us ws : List Way} {b : Best ℕ} → reaching n ws ≡ reaching n us → BestOf q xs n p us b → BestOf q xs n p ws b
best-same e w = record { cost_is = rw e w.cost_is; by = λ t. rw e (w.by t) }

pub best_none : (q : Position) (xs : List Path) (n p choice : ℕ) → BestOf q xs n p [] (record { cost = inf false; choice = choice })
unfolding reaching least
best_none q xs n p choice = record { cost_is = refl; by = λ t. absurd t }

module _ {q : Position} {xs : List Path} {n p : ℕ} {ws : List Way} {b : Best ℕ} where
  pub best-other : (w : Way) → (way_remaining w ≡ n → ⊥) → BestOf q xs n p ws b → BestOf q xs n p (ws ++ (w ∷ [])) b
  best-other w e = best-same (reaching-other n ws w e)

  pub best-past : (x : Path) (cs : List ℤ) → (x.remaining ≡ n → ⊥) → (suc x.remaining ≡ n → ⊥) → BestOf q xs n p ws b → BestOf q xs n p (ws ++ ways_of x cs) b
  best-past x cs own next = best-same (reaching-append n ws (ways_of x cs) ∙ ap (λ (vs : List Way). reaching n ws ++ vs) (reaching-none n x cs own next) ∙ append-nil (reaching n ws))

  -- one way more
  pub best-more : (w : Way) (x : Float) (choice : ℕ) → way_remaining w ≡ n → x ≡ way_cost q p w → way_of q xs choice ≡ w → choice / 16 < length xs → choice % 16 < length q.candidates
      → BestOf q xs n p ws b → BestOf q xs n p (ws ++ (w ∷ [])) (considered b x choice)
  unfolding considered least holder
  best-more w x choice e v named path level done = go (lt x b.cost) refl
    where
      g : Way → Float
      g = way_cost q p

      us : List Way
      us = reaching n ws

      l : Float
      l = least g (inf false) us

      h : Way
      h = holder g (inf false) no_way us

      lists : reaching n (ws ++ (w ∷ [])) ≡ us ++ (w ∷ [])
      lists = reaching-one n ws w e

      least-is : least g (inf false) (reaching n (ws ++ (w ∷ []))) ≡ cond (lt (g w) l) (g w) l
      least-is = ap (λ (vs : List Way). least g (inf false) vs) lists ∙ least-append g (inf false) us (w ∷ [])

      holder-is : holder g (inf false) no_way (reaching n (ws ++ (w ∷ []))) ≡ cond (lt (g w) l) w h
      holder-is = ap (λ (vs : List Way). holder g (inf false) no_way vs) lists ∙ holder-append g (inf false) no_way us (w ∷ [])

      tested : lt (g w) l ≡ lt x b.cost
      tested = ap (λ (y : Float). lt y l) (sym v) ∙ ap (λ (y : Float). lt x y) (sym done.cost_is)

      go : (t : Bool) → lt x b.cost ≡ t → BestOf q xs n p (ws ++ (w ∷ [])) (cond t (record { cost = x; choice = choice }) b)
      go true t =
          record {
            cost_is = v ∙ sym (least-is ∙ ap (λ (y : Bool). cond y (g w) l) (tested ∙ t));
            by = λ _. subst⁻¹ (λ (y : Way). ByWay q xs n p y (record { cost = x; choice = choice })) (holder-is ∙ ap (λ (y : Bool). cond y w h) (tested ∙ t))
                (record { path = path; level = level; way_is = named; cost_is = v; remaining_is = e });
          }
      go false t =
          record {
            cost_is = done.cost_is ∙ sym (least-is ∙ ap (λ (y : Bool). cond y (g w) l) (tested ∙ t));
            by = λ f. subst⁻¹ (λ (y : Way). ByWay q xs n p y b) (holder-is ∙ ap (λ (y : Bool). cond y w h) (tested ∙ t)) (done.by f);
          }

-- ---- the byte of path j with candidate i
pub byte-way : (q : Position) (xs : List Path) (j i : ℕ) → i < 16 → way_of q xs (16 * j + i) ≡ way_at q xs j i
unfolding way_of
byte-way q xs j i h =
    let above : (16 * j + i) / 16 ≡ j = omega arith in
    let below : (16 * j + i) % 16 ≡ i = omega arith in
    rw (above, below) refl

-- ---- the best of all is the merged path
named_by : {q : Position} {xs : List Path} {n p : ℕ} {ws : List Way} {b : Best ℕ} → BestOf q xs n p ws b → T (finite ((merged q ws n).cost p)) → Named q xs p b.choice (merged q ws n)
unfolding merged
named_by {q} {xs} {n} {p} {ws} {b} w t =
    let by = w.by (subst⁻¹ (λ (x : Float). T (finite x)) w.cost_is t) in
    record {
      path = by.path;
      level = by.level;
      levels_are = ap way_levels (sym by.way_is);
      cost_is = sym w.cost_is ∙ by.cost_is ∙ ap (way_cost q p) (sym by.way_is);
      remaining_is = sym by.remaining_is ∙ ap way_remaining (sym by.way_is);
    }

pub both-merged : {q : Position} {xs : List Path} {ws : List Way} {e : Entry} {n : ℕ} → e.remaining ≡ n → BothOf q xs ws e → EntryIs q xs (merged q ws n) e
unfolding merged
both-merged {q} {xs} {ws} {e} {n} r w =
    let first : BestOf q xs n 0 ws e.first = rw r at w.first in
    let second : BestOf q xs n 1 ws e.second = rw r at w.second in
    record {
      remaining_is = r;
      first_is = first.cost_is;
      second_is = second.cost_is;
      first_by = named_by first;
      second_by = named_by second;
    }

-- ---- loops: over the candidates in front of one path, and over the paths
pub ways_next : (ws : List Way) (x : Path) (cs : List ℤ) (i : ℕ) → i < length cs → (ws ++ ways_of x (take i cs)) ++ (record { path = x; level = get_or cs i (pos 0) } ∷ []) ≡ ws ++ ways_of x (take (i + 1) cs)
ways_next ws x cs i h =
    append_assoc ws (ways_of x (take i cs)) (record { path = x; level = get_or cs i (pos 0) } ∷ [])
    ∙ ap (λ (us : List Way). ws ++ us) (sym (ways_of-more x (take i cs) (get_or cs i (pos 0))) ∙ ap (ways_of x) (sym (take-suc cs i (pos 0) h)) ∙ ap (λ (k : ℕ). ways_of x (take k cs)) (sym (add-one i)))

pub paths-next : (xs : List Path) (cs : List ℤ) (j : ℕ) → j < length xs → ways (take j xs) cs ++ ways_of (get_or xs j no_path) cs ≡ ways (take (j + 1) xs) cs
paths-next xs cs j h =
    sym (ways-more (take j xs) (get_or xs j no_path) cs) ∙ ap (λ (us : List Path). ways us cs) (sym (take-suc xs j no_path h)) ∙ ap (λ (k : ℕ). ways (take k xs) cs) (sym (add-one j))

pub both-none : (q : Position) (xs : List Path) (n choice : ℕ) (x : Float) → x ≡ inf false → BothOf q xs (ways [] q.candidates) (record { remaining = n; first = record { cost = x; choice = choice }; second = record { cost = x; choice = choice } })
both-none q xs n choice x e = rw (e, ways-none q.candidates) (record { first = best_none q xs n 0 choice; second = best_none q xs n 1 choice })

pub both-start : {q : Position} {xs : List Path} {ws : List Way} {e : Entry} (x : Path) → BothOf q xs ws e → BothOf q xs (ws ++ ways_of x []) e
both-start {q} {xs} {ws} {e} x w = rw (ways_of-none x, append-nil ws) w

pub both-past : {q : Position} {xs : List Path} {ws : List Way} {e : Entry} (x : Path) → (x.remaining ≡ e.remaining → ⊥) → (suc x.remaining ≡ e.remaining → ⊥) → BothOf q xs ws e → BothOf q xs (ws ++ ways_of x q.candidates) e
both-past {q} {xs} {ws} {e} x own next w = record { first = best-past x q.candidates own next w.first; second = best-past x q.candidates own next w.second }
