-- What is answered of a release, of a package's releases and of a message.
use Rattle.std.proofs.Common.{◌≡◌, ◌≢◌, ℕ, ◌+◌, ◌<◌, ◌≤◌, Bool, true, false, bytes_eq, List, [], ◌∷◌, ◌++◌, length, get_or, take, Option, Some, None, Result, Ok, Err, is_some, refl, sym, ap, subst, ◌∙◌, arith}
use Rattle.std.specs.List.{AllZip}
use Rattle.std.proofs.lemmas.List.{take_all}
use Rattle.hex_messages.specs.declared.package.Package.{Package}
use Rattle.hex_messages.specs.declared.package.Release.{Release}
use Rattle.hex_messages.specs.Stands.{Stands}
use Rattle.mx_base.specs.Blame.{Computes}
use Rattle.hex_registry.specs.Blame.{blame_of}
use Rattle.hex_registry.specs.Loaded.{IsMessage, SaysMessage, SaysOffer, SaysOffers, SaysStock}
use Rattle.hex_registry.specs.Loaded.IsMessage.{faulty, whole}
use Rattle.hex_registry.specs.Loaded.SaysMessage.{wire, differs, version as bad_version, read as message_says}
use Rattle.hex_registry.specs.Loaded.SaysOffer.{bad as one_bad, good as one_good}
use Rattle.hex_registry.specs.Loaded.SaysOffers.{bad as all_bad, good as all_good}
use Rattle.hex_registry.specs.Loaded.SaysStock.{absent, missing, refused as stock_bad, read as stock_says}
use Rattle.hex_registry.specs.Offers.{AreOffers, IsOffer, IsVersion, SaysDemands, SaysVersion}
use Rattle.hex_registry.specs.declared.error.RegistryError.{RegistryError}
use Rattle.hex_registry.specs.declared.error.RegistryError.TheVariants.{BadVersion, NameDiffers, NoPackage}
use Rattle.hex_registry.specs.declared.offer.Offer.{Offer}
use Rattle.hex_registry.specs.declared.shelf.Stock.{Stock}
use Rattle.hex_registry.proofs.OfferLemmas.{first_bad, zip_next}
use Rattle.hex_registry.proofs.ValidLemmas.{bytes_itself}

-- of a release
pub bad_offer : (name repository : List ℕ) (release : Release) (asked version : List ℕ) → SaysVersion release.version None → asked ≡ name
    → version ≡ release.version → Computes {X = Offer} blame_of (Err (BadVersion asked version)) (SaysOffer name repository release)
bad_offer name repository release asked version never p v =
    subst (λ (n : List ℕ). Computes {X = Offer} blame_of (Err (BadVersion n version)) (SaysOffer name repository release)) (sym p)
    (subst (λ (t : List ℕ). Computes {X = Offer} blame_of (Err (BadVersion name t)) (SaysOffer name repository release)) (sym v)
    (record { answer = λ input. one_bad never; alone = refl }))

pub good_offer : (name repository : List ℕ) (release : Release) (offer : Offer) → IsVersion release.version offer.version
    → offer.retired ≡ is_some release.retired → SaysDemands repository release.dependencies offer.demands
    → Computes blame_of (Ok offer) (SaysOffer name repository release)
good_offer name repository release offer version retired demands =
    record { answer = one_good (record { version = version; retired = retired; demands = demands }); alone = refl }

-- of the releases of a package, up to one of them
bad_among : (name : List ℕ) (message : Package) (offers : List Offer) (i : ℕ) (release : Release) (error : RegistryError)
    → AreOffers message.repository (take i message.releases) offers → i < length message.releases → get_or message.releases i release ≡ release
    → SaysOffer name message.repository release (Err error) → SaysOffers name message (Err error)
bad_among name message offers i release _ are below at (one_bad never) =
    all_bad (first_bad message.repository message.releases offers i release are below at never)

pub offers_refused : (name : List ℕ) (message : Package) (releases : List Release) (offers : List Offer) (i : ℕ) (release : Release) (error : RegistryError)
    → releases ≡ message.releases → AreOffers message.repository (take i releases) offers → i < length releases → get_or releases i release ≡ release
    → Computes {X = Offer} blame_of (Err error) (SaysOffer name message.repository release)
    → Computes {X = List Offer} blame_of (Err error) (SaysOffers name message)
offers_refused name message releases offers i release error is are below at computes =
    record {
      answer = λ input. bad_among name message offers i release error
          (subst (λ (rs : List Release). AreOffers message.repository (take i rs) offers) is are)
          (subst (λ (rs : List Release). i < length rs) is below) (subst (λ (rs : List Release). get_or rs i release ≡ release) is at)
          (computes.answer input);
      alone = computes.alone;
    }

made_offer : (name repository : List ℕ) (release : Release) (offer : Offer) → SaysOffer name repository release (Ok offer) → IsOffer repository release offer
made_offer name repository release offer (one_good is) = is

pub offers_more : (name repository : List ℕ) (releases : List Release) (offers : List Offer) (i : ℕ) (release : Release) (offer : Offer)
    → AreOffers repository (take i releases) offers → i < length releases → get_or releases i release ≡ release
    → Computes blame_of (Ok offer) (SaysOffer name repository release) → AreOffers repository (take (i + 1) releases) (offers ++ offer ∷ [])
offers_more name repository releases offers i release offer are below at computes =
    zip_next (IsOffer repository) releases offers i release offer are below at (made_offer name repository release offer computes.answer)

pub offers_whole : (name : List ℕ) (message : Package) (releases : List Release) (offers : List Offer) (i : ℕ) → releases ≡ message.releases
    → length releases ≤ i → AreOffers message.repository (take i releases) offers → Computes blame_of (Ok offers) (SaysOffers name message)
offers_whole name message releases offers i is past are =
    record { answer = all_good (subst (λ (rs : List Release). AreOffers message.repository rs offers) (take_all i releases past ∙ is) are); alone = refl }

-- of a message
pub apart_bytes : (a b : List ℕ) → bytes_eq a b ≡ false → a ≢ b
apart_bytes a b e same =
    let own : bytes_eq a b ≡ true = ap (λ (n : List ℕ). bytes_eq a n) (sym same) ∙ bytes_itself a in
    let clash : true ≡ false = sym own ∙ e in cc

stands_of : (name bytes : List ℕ) (message : Package) → IsMessage name bytes (Ok message) → Stands bytes message
stands_of name bytes message (whole stands) = stands

faulty_message : (name bytes : List ℕ) (error : RegistryError) → IsMessage name bytes (Err error) → SaysMessage name bytes (Err error)
faulty_message name bytes _ (faulty fault is apart) = wire fault is apart

pub message_refused : (name bytes : List ℕ) (error : RegistryError) → Computes {X = Package} blame_of (Err error) (IsMessage name bytes)
    → Computes {X = Stock} blame_of (Err error) (SaysMessage name bytes)
message_refused name bytes error computes = record { answer = λ input. faulty_message name bytes error (computes.answer input); alone = computes.alone }

pub message_differs : (name bytes : List ℕ) (message : Package) (asked : List ℕ) → Computes blame_of (Ok message) (IsMessage name bytes) → asked ≡ name
    → message.name ≢ name → Computes {X = Stock} blame_of (Err (NameDiffers asked message.name)) (SaysMessage name bytes)
message_differs name bytes message asked computes same apart =
    subst (λ (n : List ℕ). Computes {X = Stock} blame_of (Err (NameDiffers n message.name)) (SaysMessage name bytes)) (sym same)
    (record { answer = λ input. differs message (stands_of name bytes message computes.answer) apart; alone = refl })

bad_message : (name bytes : List ℕ) (message : Package) (error : RegistryError) → Stands bytes message → message.name ≡ name
    → SaysOffers name message (Err error) → SaysMessage name bytes (Err error)
bad_message name bytes message _ stands same (all_bad first) = bad_version message stands same first

pub message_bad : (name bytes : List ℕ) (message : Package) (error : RegistryError) → Computes blame_of (Ok message) (IsMessage name bytes)
    → message.name ≡ name → Computes {X = List Offer} blame_of (Err error) (SaysOffers name message)
    → Computes {X = Stock} blame_of (Err error) (SaysMessage name bytes)
message_bad name bytes message error computes same refused =
    record {
      answer = λ input. bad_message name bytes message error (stands_of name bytes message computes.answer) same
          (refused.answer input);
      alone = refused.alone;
    }

made_offers : (name : List ℕ) (message : Package) (offers : List Offer) → SaysOffers name message (Ok offers)
    → AreOffers message.repository message.releases offers
made_offers name message offers (all_good are) = are

pub message_read : (name bytes : List ℕ) (message : Package) (offers : List Offer) → Computes blame_of (Ok message) (IsMessage name bytes)
    → message.name ≡ name → Computes blame_of (Ok offers) (SaysOffers name message)
    → Computes {X = Stock} blame_of (Ok (record { message = message; offers = offers })) (SaysMessage name bytes)
message_read name bytes message offers computes same made =
    record { answer = message_says (stands_of name bytes message computes.answer) same (made_offers name message offers made.answer); alone = refl }

-- of what stands under a name
pub stock_refused : (wanted : Bool) (name : List ℕ) (found : Option (List ℕ)) (bytes : List ℕ) (error : RegistryError) → found ≡ Some bytes
    → Computes {X = Stock} blame_of (Err error) (SaysMessage name bytes) → Computes {X = Option Stock} blame_of (Err error) (SaysStock wanted name found)
stock_refused wanted name found bytes error is computes =
    subst (λ (o : Option (List ℕ)). Computes {X = Option Stock} blame_of (Err error) (SaysStock wanted name o)) (sym is)
    (record { answer = λ input. stock_bad (computes.answer input); alone = computes.alone })

pub stock_read : (wanted : Bool) (name : List ℕ) (found : Option (List ℕ)) (bytes : List ℕ) (made : Stock) → found ≡ Some bytes
    → Computes blame_of (Ok made) (SaysMessage name bytes) → Computes blame_of (Ok (Some made)) (SaysStock wanted name found)
stock_read wanted name found bytes made is computes =
    subst (λ (o : Option (List ℕ)). Computes blame_of (Ok (Some made)) (SaysStock wanted name o)) (sym is)
    (record { answer = stock_says computes.answer; alone = refl })

pub stock_missing : (wanted : Bool) (name asked : List ℕ) (found : Option (List ℕ)) → found ≡ None → wanted ≡ true → asked ≡ name
    → Computes {X = Option Stock} blame_of (Err (NoPackage asked)) (SaysStock wanted name found)
stock_missing wanted name asked found is on same =
    subst (λ (o : Option (List ℕ)). Computes {X = Option Stock} blame_of (Err (NoPackage asked)) (SaysStock wanted name o)) (sym is)
    (subst (λ (n : List ℕ). Computes {X = Option Stock} blame_of (Err (NoPackage n)) (SaysStock wanted name None)) (sym same)
    (record { answer = λ input. missing on; alone = refl }))

pub stock_absent : (wanted : Bool) (name : List ℕ) (found : Option (List ℕ)) → found ≡ None → wanted ≡ false
    → Computes {X = Option Stock} blame_of (Ok None) (SaysStock wanted name found)
stock_absent wanted name found is off =
    subst (λ (o : Option (List ℕ)). Computes {X = Option Stock} blame_of (Ok None) (SaysStock wanted name o)) (sym is)
    (record { answer = absent off; alone = refl })
