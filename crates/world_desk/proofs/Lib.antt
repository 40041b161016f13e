mod ReadTexts
