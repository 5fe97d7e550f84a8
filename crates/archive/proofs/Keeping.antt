-- What is kept from line to line of an archive.
use Rattle.std.proofs.Common.{◌≡◌, ℕ, ◌+◌, ◌-◌, ◌≤◌, Bool, true, false, cond, ltb, List, [], ◌∷◌, ◌++◌, length, take, drop, replicate, Some, None, Option, sym, refl, ap, ◌∙◌, subst, add-zero, append-nil, arith, length-append, length-drop}
use Rattle.std.specs.List.{All}
use Rattle.std.proofs.lemmas.List.Elements.{All-replicate}
use Rattle.std.proofs.lemmas.Bool.{cond-false}
use Rattle.std.proofs.lemmas.List.{drop-drop, drop-append-le, take_at}
use Rattle.draws.specs.declared.Reply.{Reply}
use Rattle.draws.specs.Replies.{accepted, is_accepted, replied}
use Rattle.draws.specs.Meaning.{Meaning}
use Rattle.draws.specs.Sources.{tape, tape_below}
use Rattle.settlement.specs.declared.line.Line.{Line}
use Rattle.settlement.specs.Lines.{written}
use Rattle.settlement.proofs.Written.{length_written}
use Rattle.ledger.specs.declared.refusal.Refusal.{Refusal}
use Rattle.ledger.specs.declared.refusal.Refusal.TheVariants.{Full}
use Rattle.ledger.specs.declared.state.Opening.{Opening}
use Rattle.ledger.specs.declared.state.State.{State}
use Rattle.ledger.specs.Replies.{reply_of}
use Rattle.ledger.specs.Tables.{opening}
use Rattle.ledger.specs.Sound.{Facts}
use Rattle.book.specs.declared.pass.Pass.{Pass}
use Rattle.book.specs.Opened.{answer_open, open_refusal}
use Rattle.book.specs.Stages.{result_unless}
use Rattle.register.specs.declared.calls.Call.{Call}
use Rattle.register.specs.declared.calls.Call.TheVariants.{Open, OfInput, OfExercise, CutOff, Assign, GiveStatement, BeginDay}
use Rattle.register.specs.Register.{After, answer, given, Truthful, Leads, Fits}
use Rattle.register.proofs.FitLaws.{answer_fits}
use Rattle.register.proofs.RegisterLaws.{always}
use Rattle.register.proofs.WholeLaw.{law}
use Rattle.lines.specs.Lines.{faulty}
use Rattle.host.specs.declared.instruction.Instruction.{Instruction}
use Rattle.host.specs.declared.instruction.Instruction.TheVariants.{OfBook, TapeNumber}
use Rattle.host.specs.Numbers.{last}
use Rattle.host.specs.Places.{empty_line}
use Rattle.host.specs.Steps.{Shown, Step, opened_desk, start_step, stepped, call_step, make_on, instruction_step}
use Rattle.host.specs.Hosts.{statements_after}
use Rattle.host.proofs.Fitting.{written_fits, fits_at}
use Rattle.host.proofs.Following.{few_follow}
use Rattle.archive.specs.Archive.{Written, number_in, draws_in, numbers_taken, numbers_used, OpenBook, begun, opened_by, with_asked, register_of, Reaches, Reached, NoneAccepted}
use Rattle.archive.proofs.Saying.{not_accepted, used_by, Says, says}

-- of lines a that lead to the register t, took these numbers and used so many of them, at a host that shows h then
pub record Kept (t : Option OpenBook) (taken : List ℕ) (used : ℕ) (a : List Written) (h : Shown) : Type 0 where
  pub book : Reached t h.desk
  pub before : t ≡ None → NoneAccepted a
  pub within : used ≤ length taken
  pub unread : h.unread ≡ drop used taken
  pub places : length h.places ≡ 256
  pub fit : All Fits h.places

-- the numbers taken and used after a line
abbrev pub taken_then : List ℕ → Written → List ℕ
taken_then taken w = taken ++ cond (is_accepted w.reply) (number_in w.asked) []

abbrev pub used_then : ℕ → Written → ℕ
used_then used w = used + cond (is_accepted w.reply) (draws_in w.asked w.reply.result) 0

-- it is kept after the line w
abbrev pub Then : Option OpenBook → List ℕ → ℕ → List Written → Written → Shown → Type 0
Then t taken used a w h = Kept (with_asked t (drop used taken) (drop (used_then used w) (taken_then taken w)) w.asked w) (taken_then taken w) (used_then used w) (w ∷ a) h

-- the line of an instruction that did x
abbrev pub line_of : Instruction → Step → Written
line_of i x = record { asked = Some i; reply = x.reply; lines = take (statements_after i x.reply) x.after.places }

abbrev pub After_step : Option OpenBook → List ℕ → ℕ → List Written → Instruction → Step → Type 0
After_step t taken used a i x = Then t taken used a (line_of i x) x.after

reaches : (b : OpenBook) (s : State) → Leads b.opening b.register s → Reaches b s
reaches b s l = record { leads = l; holds = (law b.opening b.register s l).0 }

-- ── a line that takes and uses no number, and leaves the book ──

still : (t : Option OpenBook) (taken : List ℕ) (used : ℕ) (a : List Written) (g : Shown) (w : Written) → Kept t taken used a g
    → with_asked t (drop used taken) (drop (used_then used w) (taken_then taken w)) w.asked w ≡ t
    → cond (is_accepted w.reply) (number_in w.asked) [] ≡ []
    → cond (is_accepted w.reply) (draws_in w.asked w.reply.result) 0 ≡ 0
    → (t ≡ None → (c : Call) → w.asked ≡ Some (OfBook c) → is_accepted w.reply ≡ false)
    → Then t taken used a w g
still t taken used a g w old et en eu none =
    let e : taken_then taken w ≡ taken = ap (λ l. taken ++ l) en ∙ append-nil taken in
    let u : used_then used w ≡ used = ap (λ n. used + n) eu ∙ add-zero used in
    let P : Option OpenBook → Type 0 = λ o. Reached o g.desk in
    record {
      book = subst P (sym et) old.book;
      before = λ q. (none (sym et ∙ q), old.before (sym et ∙ q));
      within = rw (e, u) old.within;
      unread = rw (e, u) old.unread;
      places = old.places;
      fit = old.fit;
    }

pub faulty_kept : (t : Option OpenBook) (taken : List ℕ) (used : ℕ) (a : List Written) (g : Shown) (n : ℕ) (ls : List Line) → Kept t taken used a g → Then t taken used a (record { asked = None; reply = faulty n; lines = ls }) g
faulty_kept t taken used a g n ls old = still t taken used a g (record { asked = None; reply = faulty n; lines = ls }) old refl refl refl (λ q c e. refl)

-- ── a tape number ──

module _ (t : Option OpenBook) (taken : List ℕ) (used : ℕ) (a : List Written) (g : Shown) (n : ℕ) (old : Kept t taken used a g) where
  -- whether there is room for it
  abbrev number_if : Bool → Step
  number_if b = record { reply = cond b (accepted 0) (reply_of Full); after = record { desk = g.desk; unread = cond b (g.unread ++ (n ∷ [])) g.unread; places = g.places } }

  number_kept : (b : Bool) → After_step t taken used a (TapeNumber n) (number_if b)
  number_kept false = still t taken used a g (line_of (TapeNumber n) (number_if false)) old refl refl refl (λ q c e. refl)
  number_kept true =
      let same : used + 0 ≡ used = add-zero used in
      record {
        book = old.book;
        before = λ q. ((λ c e. absurd (cc e)), old.before q);
        within = omega (arith, old.within, length-append taken (n ∷ []));
        unread = rw same (ap (λ l. l ++ (n ∷ [])) old.unread ∙ sym (drop-append-le used taken (n ∷ []) old.within));
        places = old.places;
        fit = old.fit;
      }

-- ── a call with no book ──

module _ (taken : List ℕ) (used : ℕ) (a : List Written) (u : List ℕ) (ps : List Line) (old : Kept None taken used a (record { desk = None; unread = u; places = ps })) where
  turned_back : (c : Call) (r : Reply) (ls : List Line) → is_accepted r ≡ false → Then None taken used a (record { asked = Some (OfBook c); reply = r; lines = ls }) (record { desk = None; unread = u; places = ps })
  turned_back c r ls e =
      still None taken used a (record { desk = None; unread = u; places = ps }) (record { asked = Some (OfBook c); reply = r; lines = ls }) old
      (ap (opened_by c) e) (cond-false (is_accepted r) [] [] e) (cond-false (is_accepted r) _ 0 e) (λ q d i. e)

  -- an opening whose checks answered q
  abbrev opened : Opening → Option Refusal → Step
  opened o q = record {
    reply = replied reply_of (result_unless q 0);
    after = record { desk = opened_desk (answer_open q (opening o) (record { number = o.number; day = o.day })); unread = u; places = ps };
  }

  opening_kept : (o : Opening) (q : Option Refusal) → open_refusal o ≡ q → After_step None taken used a (OfBook (Open o)) (opened o q)
  opening_kept o (Some f) is = turned_back (Open o) (reply_of f) [] (not_accepted f)
  opening_kept o None is =
      let e : taken ++ [] ≡ taken = append-nil taken in
      let s : used + 0 ≡ used = add-zero used in
      record {
        book = (opening o, refl, reaches (begun o) (opening o) (record { replies = is; shows = refl }));
        before = λ q. absurd (cc q);
        within = rw (e, s) old.within;
        unread = rw (e, s) old.unread;
        places = old.places;
        fit = old.fit;
      }

  closed_kept : (c : Call) → After_step None taken used a (OfBook c) (start_step u ps c)
  closed_kept (Open o) = opening_kept o (open_refusal o) refl
  closed_kept (OfInput c) = turned_back (OfInput c) _ [] refl
  closed_kept (OfExercise c) = turned_back (OfExercise c) _ [] refl
  closed_kept CutOff = turned_back CutOff _ [] refl
  closed_kept Assign = turned_back Assign _ [] refl
  closed_kept GiveStatement = turned_back GiveStatement _ [] refl
  closed_kept (BeginDay day) = turned_back (BeginDay day) _ [] refl

-- ── a call of the open book ──

-- what an answer leaves of the tape is unread
left_unread : (u : List ℕ) (n : ℕ) (m : Meaning) → n ≤ length u → m ≡ tape (drop n u) 0 → last m.supply u ≡ drop n u
left_unread u n m le e =
    let supply : m.supply ≡ length (drop n u) - 0 = ap (λ (k : Meaning). k.supply) e in
    let at : length u - m.supply ≡ n = omega (arith, length-drop n u) in
    ap (λ k. drop k u) at

-- the first lines of what a statement wrote are its lines
first_written : (xs ps : List Line) (n : ℕ) → length xs ≡ n → take n (written ps 0 xs) ≡ xs
first_written xs ps n e = take_at xs (drop (0 + length xs) ps) n e

module _ (b : OpenBook) (taken : List ℕ) (used : ℕ) (a : List Written) (ps : List Line) (truth : Truthful b.opening b.register) (within : used ≤ length taken) (long : length ps ≡ 256) (fit : All Fits ps) (c : Call) where
  abbrev left : List ℕ
  left = drop used taken

  abbrev here : State
  here = given b.opening b.register

  abbrev r : After
  r = answer here (tape left 0) 256 b.pass c

  abbrev x : Step
  x = stepped left ps r

  abbrev w : Written
  w = line_of (OfBook c) x

  sound : Facts here
  sound = (always b.opening b.register truth).sound

  said : Says left c r
  said = says here left 256 b.pass c

  follow : length r.lines ≤ length ps
  follow =
      let P : ℕ → Type 0 = λ m. statements_after (OfBook c) (replied reply_of (answer here (tape left 0) m b.pass c).reply) ≤ length ps in
      let few = subst P long (few_follow (record { desk = Some (here, b.pass); unread = left; places = ps }) (OfBook c)) in
      omega (arith, few, said.lines)

  no_number : taken_then taken w ≡ taken
  no_number = ap (λ l. taken ++ l) (none (is_accepted x.reply)) ∙ append-nil taken
    where
      none : (z : Bool) → ◌≡◌ {A = List ℕ} (cond z [] []) []
      none true = refl
      none false = refl

  left_then : drop (used_then used w) (taken_then taken w) ≡ drop (used_by c x.reply) left
  left_then = ap (λ l. drop (used_then used w) l) no_number ∙ sym (drop-drop (used_by c x.reply) used taken)

  call_kept : After_step (Some b) taken used a (OfBook c) x
  call_kept = record {
    book = (
      r.state,
      refl,
      reaches _ r.state
          (record {
            replies = (record { reply = refl; after = ap (λ v. tape v 0) left_then ∙ sym said.source; lines = first_written r.lines ps _ said.lines; below = tape_below left 0 }, truth);
            shows = refl;
          }),
    );
    before = λ q. absurd (cc q);
    within = rw no_number (omega (arith, said.within, length-drop used taken, within));
    unread = left_unread left (used_by c x.reply) r.source said.within said.source ∙ sym left_then;
    places = length_written ps 0 r.lines (omega (arith, follow)) ∙ long;
    fit = written_fits ps r.lines fit (answer_fits here sound (tape left 0) 256 b.pass c);
  }

-- ── any instruction ──

any_call_kept : (t : Option OpenBook) (taken : List ℕ) (used : ℕ) (a : List Written) (g : Shown) (c : Call) → Kept t taken used a g → After_step t taken used a (OfBook c) (make_on g.desk g.unread g.places c)
any_call_kept None taken used a g c old =
    let P : Option (State × Pass) → Type 0 = λ d. After_step None taken used a (OfBook c) (make_on d g.unread g.places c) in
    let closed : Kept None taken used a (record { desk = None; unread = g.unread; places = g.places }) = record { book = refl; before = old.before; within = old.within; unread = old.unread; places = old.places; fit = old.fit } in
    subst P (sym old.book) (closed_kept taken used a g.unread g.places closed c)
any_call_kept (Some b) taken used a g c old =
    let leads = old.book.2.leads in
    let D : Option (State × Pass) → Type 0 = λ d. After_step (Some b) taken used a (OfBook c) (make_on d g.unread g.places c) in
    let S : State → Type 0 = λ s. After_step (Some b) taken used a (OfBook c) (call_step (s, b.pass) g.unread g.places c) in
    let U : List ℕ → Type 0 = λ u. After_step (Some b) taken used a (OfBook c) (call_step (given b.opening b.register, b.pass) u g.places c) in
    let M : ℕ → Type 0 = λ m. After_step (Some b) taken used a (OfBook c) (stepped (drop used taken) g.places (answer (given b.opening b.register) (tape (drop used taken) 0) m b.pass c)) in
    subst D (sym old.book.1) (subst S (sym leads.shows) (subst U (sym old.unread) (subst M (sym old.places) (call_kept b taken used a g.places leads.replies old.within old.places old.fit c))))

pub step_kept : (t : Option OpenBook) (taken : List ℕ) (used : ℕ) (a : List Written) (g : Shown) (i : Instruction) → Kept t taken used a g → After_step t taken used a i (instruction_step g i)
step_kept t taken used a g (OfBook c) old = any_call_kept t taken used a g c old
step_kept t taken used a g (TapeNumber n) old = number_kept t taken used a g n old (ltb (length g.unread) 1_024)

-- ── no line ──

-- what is kept of an archive
abbrev pub Told : List Written → Shown → Type 0
Told a h = Kept (register_of a) (numbers_taken a) (numbers_used a) a h

pub first_told : Told [] (record { desk = None; unread = []; places = replicate 256 empty_line })
first_told = record { book = refl; before = λ q. tt; within = omega arith; unread = refl; places = refl; fit = All-replicate Fits 256 empty_line (fits_at [] 0 (λ i d h. absurd (omega arith))) }
