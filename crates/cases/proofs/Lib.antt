mod ItemLemmas
mod TextLemmas
