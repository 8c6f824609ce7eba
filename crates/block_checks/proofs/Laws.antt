-- What checks 7 to 13 leave a search with. Assumes nothing.
use mathlib.Core.Path.{◌≡◌, refl, sym, ap, ◌∙◌}
use mathlib.Core.Bool.{Bool, true, false, cond, ◌&&◌}
use mathlib.Core.List.{List, ◌∷◌, ◌++◌}
use Prim.Native.Nat.{ℕ, ◌+◌, ◌-◌, ◌*◌, ◌≤◌, ◌<◌, min}
use native.Mathlib.Nat.{le_trans, le-min, min-le_left, min-le_right}
use native.Mathlib.Omega.{arith}
use borrow.Author.Tests.{eqb-true, eq-eqb, ne_eqb, leb-true}
use lib.Dec.{T, eqb, leb, lit≤}
use lib.ListN.{length}
use Rattle.ac_context.specs.Contexts.{is_power_below, Covered}
use Rattle.ac_context.proofs.Bounds.{covered-some, covered-most}
use Rattle.bias.specs.Level.{valid_bias}
use Rattle.block.specs.Block.{Block, covered, input_at, ideal}
use Rattle.block.specs.Checks.{check7, check8, check9, check18, check10, check11, check12, check13, valid_width, form_checks, content_checks, block_refusal, search_refusal}
use Rattle.candidates.specs.Candidates.{is_current}
use Rattle.candidates.specs.Nearest.{is_ideal}
use Rattle.laws.proofs.Tests.{and_left, and_right}
use Rattle.laws.proofs.Refused.{in-turn, refused-first, passes-first, all_pass, none-refused}
use Rattle.laws.specs.Refusals.{first_refused}
use Rattle.prices.specs.Book.{Book}
use Rattle.prices.specs.Checks.{book_refusal}
use Rattle.prices.proofs.Each.{each_below}
use Rattle.scan.proofs.Once.{perm-of}
use Rattle.weights.specs.Settings.{valid_settings}
use Rattle.weights.specs.Window.{window_len, restore_len, window_of, window_for}
use Rattle.weights.specs.declared.Window.{Window}
use Rattle.block_checks.specs.Parts.{form_refusal, content_refusal}
use Rattle.block_checks.specs.Passed.{Windowed, Passed}
use Rattle.block_checks.proofs.Sides.{sides-covered}

is_true : {t : Bool} → t ≡ true → T t
is_true e = rw e tt

-- checks 7 to 10, with 18
pub record Formed (b : Block) : Type 0 where
  pub log2 : ℕ
  pub power : Covered (covered b) log2
  pub first : is_power_below 6 b.shape.cx ≡ true
  pub second : is_power_below 6 b.shape.cy ≡ true
  pub levels_long : length b.levels ≡ 64 * covered b
  pub scan_long : length b.scan ≡ 64 * covered b
  pub source_long : length b.source ≡ 64 * covered b
  pub inverse_long : length b.inverse ≡ 64 * covered b
  pub strategy : b.shape.strategy ≤ 26
  pub channel : b.shape.channel ≤ 2
  pub fitting : check18 b ≡ true
  pub settings : valid_settings b.settings ≡ true
  pub bias : valid_bias b.bias ≡ true

pub parts8 :
    (b : Block) → check8 b ≡ true
    → (length b.levels ≡ 64 * covered b) × (length b.scan ≡ 64 * covered b) × (length b.source ≡ 64 * covered b) × (length b.inverse ≡ 64 * covered b)
unfolding check8
parts8 b e =
    let n : ℕ = 64 * covered b in
    let l = eqb (length b.levels) n in
    let s = eqb (length b.scan) n in
    let o = eqb (length b.source) n in
    let i = eqb (length b.inverse) n in
    let p = and_left (l && s && o) i e in
    let q = and_left (l && s) o p in
    (eqb-true _ _ (and_left l s q), eqb-true _ _ (and_right l s q), eqb-true _ _ (and_right (l && s) o p), eqb-true _ _ (and_right (l && s && o) i e))

pub formed : (b : Block) → form_refusal b ≡ 0 → Formed b
unfolding form_refusal form_checks check7 check9 check10 covered
formed b e =
    let t7 = passes-first (check7 b) 7 _ 0 refl e in
    let t8 = passes-first (check8 b) 8 _ 0 refl t7.1 in
    let t9 = passes-first (check9 b) 9 _ 0 refl t8.1 in
    let t18 = passes-first (check18 b) 18 _ 0 refl t9.1 in
    let t10 = passes-first (check10 b) 10 _ 0 refl t18.1 in
    let x = is_power_below 6 b.shape.cx in
    let y = is_power_below 6 b.shape.cy in
    let sides = sides-covered b.shape.cx b.shape.cy (and_left x y t7.0) (and_right x y t7.0) in
    let long = parts8 b t8.0 in
    record {
      log2 = sides.0;
      power = sides.1;
      first = and_left x y t7.0;
      second = and_right x y t7.0;
      levels_long = long.0;
      scan_long = long.1;
      source_long = long.2;
      inverse_long = long.3;
      strategy = leb-true _ _ (and_left (leb b.shape.strategy 26) (leb b.shape.channel 2) t9.0);
      channel = leb-true _ _ (and_right (leb b.shape.strategy 26) (leb b.shape.channel 2) t9.0);
      fitting = t18.0;
      settings = and_left (valid_settings b.settings) (valid_bias b.bias) t10.0;
      bias = and_right (valid_settings b.settings) (valid_bias b.bias) t10.0;
    }

-- what comes after the first part
abbrev later_checks : ℕ → Window → Block → List (Bool × ℕ)
later_checks w v b = (valid_width w, 26) ∷ content_checks v b

-- The parts make up the whole: where the first refuses, so does the whole ..
pub form-first : (w : ℕ) (v : Window) (b : Block) {r : ℕ} → r ≡ form_refusal b → (r ≡ 0 → ⊥) → r ≡ block_refusal w v b 0
unfolding block_refusal form_refusal
form-first w v b e n =
    e ∙ sym (in-turn (form_checks b) (later_checks w v b) 0 ∙ refused-first (form_checks b) (first_refused (later_checks w v b) 0) (λ z. n (e ∙ z)))

-- .. where it passes, the half-width and then the second decide ..
form-passed : (w : ℕ) (v : Window) (b : Block) → form_refusal b ≡ 0 → block_refusal w v b 0 ≡ cond (valid_width w) (content_refusal v b) 26
unfolding block_refusal form_refusal content_refusal form_checks first_refused
form-passed w v b e =
    in-turn (form_checks b) (later_checks w v b) 0 ∙ all_pass (form_checks b) (first_refused (later_checks w v b) 0) refl e

pub width-passed : (w : ℕ) (v : Window) (b : Block) → form_refusal b ≡ 0 → valid_width w ≡ true → block_refusal w v b 0 ≡ content_refusal v b
width-passed w v b e t = form-passed w v b e ∙ ap (λ (x : Bool). cond x (content_refusal v b) 26) t

-- .. and a whole that passes has parts that pass.
both-parts : (w : ℕ) (v : Window) (b : Block) → block_refusal w v b 0 ≡ 0 → (form_refusal b ≡ 0) × (valid_width w ≡ true) × (content_refusal v b ≡ 0)
unfolding form_refusal form_checks block_refusal
both-parts w v b e =
    let form : form_refusal b ≡ 0 = none-refused (form_checks b) (first_refused (later_checks w v b) 0) refl (sym (in-turn (form_checks b) (later_checks w v b) 0) ∙ e) in
    let t26 = passes-first (valid_width w) 26 _ 0 refl (sym (all_pass (form_checks b) (first_refused (later_checks w v b) 0) refl form) ∙ sym (in-turn (form_checks b) (later_checks w v b) 0) ∙ e) in
    (form, t26.0, sym (width-passed w v b form t26.0) ∙ e)

pub width-held : (w : ℕ) (v : Window) (b : Block) → block_refusal w v b 0 ≡ 0 → valid_width w ≡ true
width-held w v b e = (both-parts w v b e).1

-- a half-width that passed
pub width_few : (w : ℕ) → valid_width w ≡ true → w ≤ 12
unfolding valid_width
width_few w e = leb-true _ _ (and_right (leb 1 w) (leb w 12) e)

-- document 01's window
windowed : (c : ℕ) → 0 < c → Windowed c (window_of c)
unfolding window_of
windowed c h = go (eqb c 1) refl
  where
    go : (t : Bool) → eqb c 1 ≡ t → Windowed c (record { length = min (cond t 63 (min (64 * c) 1024)) (63 * c); restoring = cond t 20 (min (24 * c) 256) })
    go true e =
        let one = eqb-true c 1 e in
        record {
          some = le-min (lit≤ tt) (omega arith);
          fits = omega (arith, min-le_right 63 (63 * c));
          most = le_trans (min-le_left 63 (63 * c)) (lit≤ tt);
          restoring = le-min (lit≤ tt) (omega arith);
        }
    go false e =
        let low = min-le_left (24 * c) 256 in
        let high = min-le_right (24 * c) 256 in
        record {
          some = le-min (le-min (omega arith) (lit≤ tt)) (omega arith);
          fits = omega (arith, min-le_right (min (64 * c) 1024) (63 * c));
          most = le_trans (min-le_left (min (64 * c) 1024) (63 * c)) (min-le_right (64 * c) 1024);
          restoring = le-min (le-min (omega arith) (omega arith)) (omega arith);
        }

-- .. and under a cap
pub window-fits : (cap c : ℕ) → 0 < c → c + (window_for cap c).length ≤ 64 * c
unfolding window_for window_of
window-fits cap c h = omega (arith, (windowed c h).fits, min-le_right cap (window_len c))

pub windowed-for : (cap c : ℕ) → 0 < cap → 0 < c → Windowed c (window_for cap c)
unfolding window_for window_of
windowed-for cap c some h =
    let w = windowed c h in
    record {
      some = le-min some w.some;
      fits = window-fits cap c h;
      most = le_trans (min-le_right cap (window_len c)) w.most;
      restoring = min-le_right (restore_len c) (min cap (window_len c));
    }

module _ (v : Window) (b : Block) where
  levels-current : check12 b ≡ true → (k : ℕ) → covered b ≤ k → k < 64 * covered b → T (is_current (input_at b k))
  unfolding check12
  levels-current e k l h =
      let at : covered b + (k - covered b) ≡ k = omega arith in
      is_true (rw at at (each_below (λ i. is_current (input_at b (covered b + i))) (63 * covered b) e (k - covered b) (omega arith)))

  window-ideals : check13 v b ≡ true → (i : ℕ) → i < v.length → T (is_ideal (ideal b i))
  unfolding check13
  window-ideals e i h = is_true (each_below (λ i. is_ideal (ideal b i)) v.length e i h)

  -- any window within the block
  pub passed-in : (w : ℕ) → block_refusal w v b 0 ≡ 0 → Windowed (covered b) v → Passed v b
  unfolding content_refusal content_checks check11
  passed-in n e w =
      let parts = both-parts n v b e in
      let f = formed b parts.0 in
      let t11 = passes-first (check11 b) 11 _ 0 refl parts.2 in
      let t12 = passes-first (check12 b) 12 _ 0 refl t11.1 in
      let t13 = passes-first (check13 v b) 13 _ 0 refl t12.1 in
      record {
        first_side = f.first;
        second_side = f.second;
        log2 = f.log2;
        power = f.power;
        some = covered-some f.power;
        most = covered-most f.power;
        levels_long = f.levels_long;
        scan_long = f.scan_long;
        source_long = f.source_long;
        inverse_long = f.inverse_long;
        strategy = f.strategy;
        channel = f.channel;
        settings = is_true f.settings;
        bias = is_true f.bias;
        scanned = perm-of b.scan (64 * covered b) f.scan_long t11.0;
        current = levels-current t12.0;
        ideals = window-ideals t13.0;
        window = w;
      }

-- a window under a cap
pub passed : (w cap : ℕ) (b : Block) → 0 < cap → block_refusal w (window_for cap (covered b)) b 0 ≡ 0 → Passed (window_for cap (covered b)) b
passed w cap b some e =
    let v = window_for cap (covered b) in
    let f = formed b (both-parts w v b e).0 in
    passed-in v b w e (windowed-for cap (covered b) some (covered-some f.power))

-- what comes after a block that is refused changes nothing; after one that passes it is answered
pub later-none : (w : ℕ) (v : Window) (b : Block) (later : ℕ) → (block_refusal w v b 0 ≡ 0 → ⊥) → block_refusal w v b later ≡ block_refusal w v b 0
unfolding block_refusal
later-none w v b later n = refused-first (form_checks b ++ later_checks w v b) later n

pub after-all : (w : ℕ) (v : Window) (b : Block) (later : ℕ) → block_refusal w v b 0 ≡ 0 → block_refusal w v b later ≡ later
unfolding block_refusal form_checks content_checks
after-all w v b later e = all_pass (form_checks b ++ later_checks w v b) later refl e

pub none-fails : (w : ℕ) (v : Window) (b : Block) (later : ℕ) → block_refusal w v b later ≡ 0 → block_refusal w v b 0 ≡ 0
unfolding block_refusal form_checks content_checks
none-fails w v b later e = none-refused (form_checks b ++ later_checks w v b) later refl e

-- ---- the refusals of a search: its book's, else its block's
module _ (w : ℕ) (v : Window) (book : Book) (b : Block) (room : Bool) where
  pub refused-book : (book_refusal book ≡ 0 → ⊥) → search_refusal w v book b room ≡ book_refusal book
  unfolding search_refusal
  refused-book n = rw (ne_eqb (book_refusal book) 0 n)

  pub refused-block : book_refusal book ≡ 0 → search_refusal w v book b room ≡ block_refusal w v b (cond room 0 14)
  unfolding search_refusal
  refused-block ok = rw (eq-eqb (book_refusal book) 0 ok)

pub width-refused : (w : ℕ) (v : Window) (b : Block) → form_refusal b ≡ 0 → valid_width w ≡ false → 26 ≡ block_refusal w v b 0
width-refused w v b e t = sym (form-passed w v b e ∙ ap (λ (x : Bool). cond x (content_refusal v b) 26) t)
